-- Rows whose numbers rise.
use Rattle.std.proofs.Common.{ℕ, ◌+◌, ◌≤◌, List, [], ◌∷◌, ◌++◌, arith}
use Rattle.dl_base.specs.declared.value.Row.{Row}
use Rattle.meaning_tables.specs.Tables.{Rise}

-- numbers that rise from one number on rise from a smaller one on
rise_from : (first least below : ℕ) (rows : List (ℕ × Row)) → least ≤ first → Rise first below rows → Rise least below rows
rise_from first least below [] le rise = tt
rise_from first least below (r ∷ rs) le rise = (omega (arith, rise.0), rise.1, rise.2)

-- a row is left out
pub rise_left_out : (first below : ℕ) (before : List (ℕ × Row)) (row : ℕ × Row) (rest : List (ℕ × Row)) → Rise first below (before ++ row ∷ rest) → Rise first below (before ++ rest)
rise_left_out first below [] row rest rise = rise_from (row.0 + 1) first below rest (omega (arith, rise.0)) rise.2
rise_left_out first below (r ∷ rs) row rest rise = (rise.0, rise.1, rise_left_out (r.0 + 1) below rs row rest rise.2)

-- a row has other values
pub rise_changed : (first below : ℕ) (before : List (ℕ × Row)) (number : ℕ) (old new : Row) (rest : List (ℕ × Row))
    → Rise first below (before ++ (number, old) ∷ rest) → Rise first below (before ++ (number, new) ∷ rest)
rise_changed first below [] number old new rest rise = rise
rise_changed first below (r ∷ rs) number old new rest rise = (rise.0, rise.1, rise_changed (r.0 + 1) below rs number old new rest rise.2)
