-- Which rows a statement touches.
use Rattle.std.specs.Prelude.{ℕ, ◌+◌, zero, suc, Bool, true, false, List, [], ◌∷◌}
use Rattle.dl_base.specs.declared.statement.Stmt.{Stmt}
use Rattle.dl_base.specs.declared.statement.Stmt.TheVariants as statements

-- so many numbers from one on
abbrev pub numbers_from : ℕ → ℕ → List ℕ
numbers_from first zero = []
numbers_from first (suc n) = first ∷ numbers_from (first + 1) n

-- whether a statement is one that puts in, sets or removes rows of a table
abbrev pub changes_rows : Stmt → Bool
changes_rows (statements.Insert name names tuples) = true
changes_rows (statements.Update name sets filter) = true
changes_rows (statements.Delete name filter) = true
changes_rows _ = false
