use Rattle.std.proofs.Common.{◌≡◌, ◌++◌, drop, map}
use Rattle.bk_backup.proofs.Images.{values_of}
use Rattle.bk_backup.proofs.image.rows.Given as goal

abbrev pub invariant-loop-i : goal.invariant-loop-i
invariant-loop-i l = l.made ++ map values_of (drop l.i l.table.rows) ≡ map values_of l.table.rows
