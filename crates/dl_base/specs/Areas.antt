-- Areas told apart by a test.
use Rattle.std.specs.Prelude.{ℕ, Bool, ◌==◌}
use Rattle.dl_base.specs.declared.area.Area.{Area}
use Rattle.dl_base.specs.declared.area.Area.TheVariants.{Rows, Links, Files, Archive, Backups}

abbrev pub area_number : Area → ℕ
area_number Rows = 0
area_number Links = 1
area_number Files = 2
area_number Archive = 3
area_number Backups = 4

abbrev pub is_area : Area → Area → Bool
is_area a b = area_number a == area_number b
