use Rattle.std.proofs.Common.{◌≡◌, ◌++◌, map}
use Rattle.std.specs.FinMap as maps
use Rattle.fm_archive.specs.Copies.{link_of}
use Rattle.meaning_settling.specs.Settling.{link_key}
use Rattle.fm_archive.proofs.copies.CopyTable.links.Given as goal

-- the links so far, and those that are left, are all
abbrev pub invariant-loop-key : goal.invariant-loop-key
invariant-loop-key l = map link_key l.links ++ map (λ e. link_key (link_of e.0)) l.key-iterator ≡ maps.keys l.self.copies
