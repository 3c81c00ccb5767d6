-- Records of one area.
use Rattle.std.specs.Prelude.{ℕ, List, map, None}
use Rattle.dl_base.specs.declared.area.Area.{Area}
use Rattle.dl_areas.specs.Lists.{Write, write_of}

-- a record with each of these bodies, in order
abbrev pub writes_in : Area → List (List ℕ) → List Write
writes_in area bodies = map (λ body. write_of area body None) bodies
