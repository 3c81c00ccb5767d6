use Rattle.std.proofs.Common.{◌≡◌, drop}
use Rattle.std.specs.Cmp.Lexicographic.{pointwise}
use Rattle.std.specs.Ordering.{is_eq}
use Rattle.sql_table.proofs.index.are_equal.Given as goal

abbrev pub invariant-loop-i : goal.invariant-loop-i
invariant-loop-i g l = pointwise (λ m o. is_eq (g.K.Ordered.order m o)) (drop l.i l.marks) (drop l.i l.others) ≡ pointwise (λ m o. is_eq (g.K.Ordered.order m o)) l.marks l.others
