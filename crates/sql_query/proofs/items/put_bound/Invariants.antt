use Rattle.std.proofs.Common.{◌≡◌, ◌++◌, drop}
use Rattle.std.specs.Prelude.{map}
use Rattle.sql_expr.specs.Binding.{bound_in}
use Rattle.sql_query.proofs.items.put_bound.Given as goal

-- the expressions so far, and those of what is left
abbrev pub invariant-loop-item : goal.invariant-loop-item
invariant-loop-item l = l.made ++ map (λ i. bound_in l.columns i.expr) (drop l.item-index l.items) ≡ l.fn.made ++ map (λ i. bound_in l.columns i.expr) l.items
