use Rattle.std.proofs.Common.{◌≡◌, ◌++◌, length}
use Rattle.dl_pages.proofs.leaves.push_copies.Given as goal

abbrev pub invariant-loop-item : goal.invariant-loop-item
invariant-loop-item g l = l.row.items ++ l.rest ≡ l.fn.row.items ++ l.items

abbrev pub decreases-loop-item : goal.decreases-loop-item
decreases-loop-item g l = length l.rest
