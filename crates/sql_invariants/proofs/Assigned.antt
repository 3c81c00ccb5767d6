-- A value of a type that a column takes is of the column's type.
use Rattle.std.proofs.Common.{◌≡◌, ◌+◌, ◌==◌, ℕ, zero, suc, true, List, [], ◌∷◌, Ok, refl, sym, ap, ◌∙◌, subst, arith}
use Rattle.std.proofs.lemmas.Bool.{cond_both, eqb-true}
use Rattle.dl_base.specs.declared.column.Column.{Column}
use Rattle.dl_base.specs.declared.column.Kind.{Kind}
use Rattle.dl_base.specs.declared.column.Kind.TheVariants as kinds
use Rattle.dl_base.specs.declared.sql_fault.SqlFault.TheVariants as faults
use Rattle.dl_base.specs.declared.value.Row.{Row}
use Rattle.dl_base.specs.declared.value.Value.{Value}
use Rattle.dl_base.specs.declared.value.Value.TheVariants as values
use Rattle.meaning_sql.specs.declared.SqlType.{SqlType}
use Rattle.meaning_sql.specs.declared.SqlType.TheVariants as types
use Rattle.meaning_sql.specs.Faults.{typed}
use Rattle.meaning_sql.specs.Fitting.{is_of_type}
use Rattle.meaning_sql.specs.Types.{kind_type, is_int, is_text, is_link}
use Rattle.meaning_sql.specs.Values.{cell}
use Rattle.meaning_statements.specs.Assigning.{is_assignable, kind_of_column}
use Rattle.meaning_statements.specs.Changing.{assigned, value_for, new_cell, arranged, with_cells}
use Rattle.sql_invariants.proofs.Rows.{as_row, IsTypedAt, AreTypedFrom, AreFrom, at_once, one_on}
use Rattle.sql_invariants.proofs.Steps.{go_on, held}

-- NULL is of each type
of_null : (t : SqlType) (v : Value) → is_of_type types.Null v ≡ true → is_of_type t v ≡ true
of_null t values.Null h = refl
of_null t (values.Int z) h = absurd (cc)
of_null t (values.Text x) h = absurd (cc)
of_null t (values.Link d) h = absurd (cc)

-- what a column of type u takes is of type u, or NULL
of_int : (t : SqlType) (v : Value) → is_int t ≡ true → is_of_type t v ≡ true → is_of_type types.Int v ≡ true
of_int types.Int v takes h = h
of_int types.Null v takes h = of_null types.Int v h
of_int types.Text v takes h = absurd (cc)
of_int types.Link v takes h = absurd (cc)
of_int types.Truth v takes h = absurd (cc)

of_text : (t : SqlType) (v : Value) → is_text t ≡ true → is_of_type t v ≡ true → is_of_type types.Text v ≡ true
of_text types.Text v takes h = h
of_text types.Null v takes h = of_null types.Text v h
of_text types.Int v takes h = absurd (cc)
of_text types.Link v takes h = absurd (cc)
of_text types.Truth v takes h = absurd (cc)

of_link : (t : SqlType) (v : Value) → is_link t ≡ true → is_of_type t v ≡ true → is_of_type types.Link v ≡ true
of_link types.Link v takes h = h
of_link types.Null v takes h = of_null types.Link v h
of_link types.Int v takes h = absurd (cc)
of_link types.Text v takes h = absurd (cc)
of_link types.Truth v takes h = absurd (cc)

of_column : (kind : Kind) (t : SqlType) (v : Value) → is_assignable kind t ≡ true → is_of_type t v ≡ true → is_of_type (kind_type kind) v ≡ true
of_column kinds.Int t v takes h = of_int t v takes h
of_column (kinds.Text most) t v takes h = of_text t v takes h
of_column kinds.Free t v takes h = of_link t v takes h
of_column (kinds.Linked options) t v takes h = of_link t v takes h

-- values of these types, one each
abbrev pub AreOf : List SqlType → List Value → Type 0
AreOf [] [] = Unit {0}
AreOf (t ∷ ts) (v ∷ vs) = (is_of_type t v ≡ true) × AreOf ts vs
AreOf _ _ = ⊥

-- the values of a row from place j on have the types of the columns at these places
abbrev pub AreAt : List Column → ℕ → List ℕ → Row → Type 0
AreAt columns j [] row = Unit {0}
AreAt columns j (p ∷ ps) row = IsTypedAt columns p (cell row j) × AreAt columns (j + 1) ps row

from_next : (j : ℕ) (row : Row) (v : Value) (vs : List Value) → AreFrom j row (v ∷ vs) → AreFrom (j + 1) row vs
unfolding cell
from_next j row v vs from m = ap (λ n. cell row n) (sym (one_on j m)) ∙ from (suc m)

first_cell : (j : ℕ) (row : Row) (vs : List Value) → AreFrom j row vs → cell row j ≡ cell (as_row vs) 0
first_cell j row vs from = ap (λ n. cell row n) (sym (at_once j)) ∙ from 0

past_the_end : (columns : List Column) (j : ℕ) (places : List ℕ) (row : Row) → AreFrom j row [] → AreAt columns j places row
unfolding cell
past_the_end columns j [] row from = tt
past_the_end columns j (p ∷ ps) row from = (
  subst (λ (v : Value). IsTypedAt columns p v) (sym (first_cell j row [] from)) refl,
  past_the_end columns (j + 1) ps row (λ m. ap (λ n. cell row n) (sym (one_on j m)) ∙ from (suc m)),
)

-- values whose types the columns at these places take
pub taken : (columns : List Column) (j : ℕ) (places : List ℕ) (kinds kept : List SqlType) (vs : List Value) (row : Row) → assigned columns places kinds ≡ Ok kept → AreOf kinds vs → AreFrom j row vs → AreAt columns j places row
unfolding cell
taken columns j [] kinds kept vs row is of from = tt
taken columns j (p ∷ ps) [] kept [] row is of from = past_the_end columns j (p ∷ ps) row from
taken columns j (p ∷ ps) [] kept (v ∷ vs) row is of from = absurd of
taken columns j (p ∷ ps) (t ∷ ts) kept [] row is of from = absurd of
taken columns j (p ∷ ps) (t ∷ ts) kept (v ∷ vs) row is of from =
    go_on (typed (is_assignable (kind_of_column columns p) t) t) is λ one here is.
    go_on (assigned columns ps ts) is λ rest others is.
    let takes = held (is_assignable (kind_of_column columns p) t) t one faults.TypeFault here in (
      subst (λ (x : Value). IsTypedAt columns p x) (sym (first_cell j row (v ∷ vs) from)) (of_column (kind_of_column columns p) t v takes.test of.0),
      taken columns (j + 1) ps ts rest vs row others of.1 (from_next j row v vs from),
    )

-- the value for a column, that of its place or NULL
value_typed : (columns : List Column) (j : ℕ) (places : List ℕ) (tuple : Row) (n : ℕ) → AreAt columns j places tuple → IsTypedAt columns n (value_for j places tuple n)
value_typed columns j [] tuple n at = refl
value_typed columns j (p ∷ ps) tuple n at =
    cond_both (p == n) (cell tuple j) (value_for (j + 1) ps tuple n) (λ v. IsTypedAt columns n v)
    (λ e. subst (λ i. IsTypedAt columns i (cell tuple j)) (eqb-true p n e) at.0) (λ e. value_typed columns (j + 1) ps tuple n at.1)

arranged_typed : (columns : List Column) (i : ℕ) (cs : List Column) (places : List ℕ) (tuple : Row) → AreAt columns 0 places tuple → (m : ℕ) → IsTypedAt columns (i + m) (cell (as_row (arranged i cs places tuple)) m)
unfolding cell
arranged_typed columns i [] places tuple at m = refl
arranged_typed columns i (c ∷ cs) places tuple at zero = subst (λ n. IsTypedAt columns n (value_for 0 places tuple i)) (sym (at_once i)) (value_typed columns 0 places tuple i at)
arranged_typed columns i (c ∷ cs) places tuple at (suc m) =
    subst (λ n. IsTypedAt columns n (cell (as_row (arranged (i + 1) cs places tuple)) m)) (sym (one_on i m)) (arranged_typed columns (i + 1) cs places tuple at m)

from_none : (m : ℕ) → 0 + m ≡ m
from_none m = omega arith

-- the row that an INSERT puts in
pub inserted_typed : (columns : List Column) (places : List ℕ) (tuple : Row) → AreAt columns 0 places tuple → AreTypedFrom 0 columns (as_row (arranged 0 columns places tuple))
inserted_typed columns places tuple at m =
    subst (λ n. IsTypedAt columns m (cell (as_row (arranged 0 columns places tuple)) n)) (sym (from_none m))
    (subst (λ n. IsTypedAt columns n (cell (as_row (arranged 0 columns places tuple)) m)) (from_none m) (arranged_typed columns 0 columns places tuple at m))

-- the new value of a column, that of its place or the old one
new_typed : (columns : List Column) (j : ℕ) (places : List ℕ) (news : Row) (n : ℕ) (old : Value) → AreAt columns j places news → IsTypedAt columns n old → IsTypedAt columns n (new_cell j places news n old)
new_typed columns j [] news n old at is = is
new_typed columns j (p ∷ ps) news n old at is =
    cond_both (p == n) (cell news j) (new_cell (j + 1) ps news n old) (λ v. IsTypedAt columns n v)
    (λ e. subst (λ i. IsTypedAt columns i (cell news j)) (eqb-true p n e) at.0) (λ e. new_typed columns (j + 1) ps news n old at.1 is)

with_typed : (columns : List Column) (i : ℕ) (places : List ℕ) (news : Row) (vs : List Value) → AreAt columns 0 places news → ((m : ℕ) → IsTypedAt columns (i + m) (cell (as_row vs) m))
    → (m : ℕ) → IsTypedAt columns (i + m) (cell (as_row (with_cells places news i vs)) m)
unfolding cell
with_typed columns i places news [] at olds m = refl
with_typed columns i places news (v ∷ vs) at olds zero =
    subst (λ n. IsTypedAt columns n (new_cell 0 places news i v)) (sym (at_once i)) (new_typed columns 0 places news i v at (subst (λ n. IsTypedAt columns n v) (at_once i) (olds 0)))
with_typed columns i places news (v ∷ vs) at olds (suc m) =
    subst (λ n. IsTypedAt columns n (cell (as_row (with_cells places news (i + 1) vs)) m)) (sym (one_on i m))
    (with_typed columns (i + 1) places news vs at (λ n. subst (λ l. IsTypedAt columns l (cell (as_row vs) n)) (one_on i n) (olds (suc n))) m)

-- the row that an UPDATE makes of one
pub updated_typed : (columns : List Column) (places : List ℕ) (news : Row) (vs : List Value) → AreAt columns 0 places news → ((m : ℕ) → IsTypedAt columns m (cell (as_row vs) m)) → AreTypedFrom 0 columns (as_row (with_cells places news 0 vs))
updated_typed columns places news vs at olds m =
    subst (λ n. IsTypedAt columns m (cell (as_row (with_cells places news 0 vs)) n)) (sym (from_none m))
    (subst (λ n. IsTypedAt columns n (cell (as_row (with_cells places news 0 vs)) m)) (from_none m)
    (with_typed columns 0 places news vs at (λ n. subst (λ l. IsTypedAt columns l (cell (as_row vs) n)) (sym (from_none n)) (olds n)) m))
