use Rattle.std.proofs.Common.{◌≡◌, ◌++◌, map}
use Rattle.std.specs.Vec.Iter.{into_iter_items}
use Rattle.bk_backup.proofs.Images.{valued}
use Rattle.bk_backup.proofs.tables.rows_of.Given as goal

abbrev pub invariant-loop-number : goal.invariant-loop-number
invariant-loop-number l = l.rows ++ map valued (into_iter_items l.number-iterator) ≡ map valued l.fn.values
