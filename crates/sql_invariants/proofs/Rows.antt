-- The cells of a row that are put in together, column by column.
use Rattle.std.proofs.Common.{◌≡◌, ◌+◌, ◌++◌, ◌&&◌, ℕ, suc, Bool, true, List, [], ◌∷◌, Ok, refl, ◌∙◌, subst, arith}
use Rattle.dl_base.specs.declared.column.Column.{Column}
use Rattle.dl_base.specs.declared.value.LinkRow.{LinkRow}
use Rattle.dl_base.specs.declared.value.Row.{Row}
use Rattle.dl_base.specs.declared.value.Value.{Value}
use Rattle.meaning_sql.specs.Fitting.{is_of_type}
use Rattle.meaning_sql.specs.Types.{kind_type}
use Rattle.meaning_sql.specs.Values.{cell}
use Rattle.meaning_statements.specs.Assigning.{stored, stored_row, kind_of_column}
use Rattle.meaning_tables.specs.Fits.{fits_kind, fits_rule, fits_columns}
use Rattle.meaning_tables.specs.Links.{cell_links, row_links}
use Rattle.sql_invariants.proofs.Cells.{cell_fits, cell_walk, null_unlinked}
use Rattle.sql_invariants.proofs.Steps.{go_on, given}
use Rattle.sql_invariants.proofs.Walks.{Walk, ends, after}

-- a list of values as a row
abbrev pub as_row : List Value → Row
as_row vs = record { values = vs }

-- a value has the type of the column at a place
abbrev pub IsTypedAt : List Column → ℕ → Value → Type 0
IsTypedAt columns i v = is_of_type (kind_type (kind_of_column columns i)) v ≡ true

-- the values of a row from place i on have the types of these columns
abbrev pub AreTypedFrom : ℕ → List Column → Row → Type 0
AreTypedFrom i columns row = (m : ℕ) → IsTypedAt columns m (cell row (i + m))

-- the values of a row from place i on are these
abbrev pub AreFrom : ℕ → Row → List Value → Type 0
AreFrom i row vs = (m : ℕ) → cell row (i + m) ≡ cell (as_row vs) m

pub at_once : (i : ℕ) → i + 0 ≡ i
at_once i = omega arith

pub one_on : (i m : ℕ) → i + suc m ≡ i + 1 + m
one_on i m = omega arith

all_three : (a b c : Bool) → a ≡ true → b ≡ true → c ≡ true → (a && b && c) ≡ true
all_three a b c ha hb hc = rw (ha, hb) hc

-- what is put in fits
pub row_fits : (tx k i : ℕ) (columns : List Column) (old new : Row) (q : List Value × ℕ) → stored_row tx k i columns old new ≡ Ok q → AreTypedFrom i columns new → fits_columns columns q.0 ≡ true
row_fits tx k i [] old new q is typed = subst (λ (p : List Value × ℕ). fits_columns [] p.0 ≡ true) (given _ q is) refl
row_fits tx k i (c ∷ cs) old new q is typed =
    go_on (stored tx k c (cell old i) (cell new i)) is λ one here is.
    go_on (stored_row tx one.1 (i + 1) cs old new) is λ rest others is.
    let fit = cell_fits tx k c (cell old i) (cell new i) one here (subst (λ n. is_of_type (kind_type c.kind) (cell new n) ≡ true) (at_once i) (typed 0)) in
    let fits = row_fits tx one.1 (i + 1) cs old new rest others (λ m. subst (λ n. IsTypedAt cs m (cell new n)) (one_on i m) (typed (suc m))) in
    subst (λ (p : List Value × ℕ). fits_columns (c ∷ cs) p.0 ≡ true) (given _ q is)
    (all_three (fits_kind c.kind one.0) (fits_rule c.rule one.0) (fits_columns cs rest.0) fit.of_kind fit.by_rule fits)

-- the links of a row are those of its first cell, and the others
abbrev tail : List Value → List Value
tail [] = []
tail (v ∷ vs) = vs

pub no_links : (columns : List Column) → row_links columns [] ≡ []
no_links [] = refl
no_links (c ∷ cs) = refl

first_links : (c : Column) (cs : List Column) (vs : List Value) → cell_links c.kind (cell (as_row vs) 0) ++ row_links cs (tail vs) ≡ row_links (c ∷ cs) vs
unfolding cell
first_links c cs [] = rw (null_unlinked c.kind, no_links cs) refl
first_links c cs (v ∷ vs) = refl

later_cells : (vs : List Value) (m : ℕ) → cell (as_row vs) (suc m) ≡ cell (as_row (tail vs)) m
unfolding cell
later_cells [] m = refl
later_cells (v ∷ vs) m = refl

-- the links before and after
pub row_walk : (tx k i : ℕ) (columns : List Column) (old new : Row) (vs : List Value) (q : List Value × ℕ) → stored_row tx k i columns old new ≡ Ok q → AreFrom i old vs → Walk tx k q.1 (row_links columns vs) (row_links columns q.0)
row_walk tx k i [] old new vs q is from = subst (λ (p : List Value × ℕ). Walk tx k p.1 [] []) (given _ q is) ends
row_walk tx k i (c ∷ cs) old new vs q is from =
    go_on (stored tx k c (cell old i) (cell new i)) is λ one here is.
    go_on (stored_row tx one.1 (i + 1) cs old new) is λ rest others is.
    let first : cell old i ≡ cell (as_row vs) 0 = subst (λ n. cell old n ≡ cell (as_row vs) 0) (at_once i) (from 0) in
    let walk = subst (λ (v : Value). Walk tx k one.1 (cell_links c.kind v) (cell_links c.kind one.0)) first (cell_walk tx k c (cell old i) (cell new i) one here) in
    let later = row_walk tx one.1 (i + 1) cs old new (tail vs) rest others (λ m. subst (λ n. cell old n ≡ cell (as_row (tail vs)) m) (one_on i m) (from (suc m) ∙ later_cells vs m)) in
    subst (λ (p : List Value × ℕ). Walk tx k p.1 (row_links (c ∷ cs) vs) (row_links (c ∷ cs) p.0)) (given _ q is)
    (subst (λ (olds : List LinkRow). Walk tx k rest.1 olds (cell_links c.kind one.0 ++ row_links cs rest.0)) (first_links c cs vs) (after walk later))
