-- The conditions of one source more.
use Rattle.std.proofs.Common.{◌≡◌, List, [], ◌∷◌, ◌++◌, Some, None, refl, ap}
use Rattle.dl_base.specs.declared.statement.Expr.{Expr}
use Rattle.sql_grammar.specs.Statements.{Following, conditions_of}

pub conditions_push : (xs : List Following) (x : Following) → conditions_of (xs ++ x ∷ []) ≡ conditions_of xs ++ conditions_of (x ∷ [])
conditions_push [] x = refl
conditions_push ((t, None) ∷ xs) x = conditions_push xs x
conditions_push ((t, Some c) ∷ xs) x = ap (λ (y : List Expr). c ∷ y) (conditions_push xs x)
