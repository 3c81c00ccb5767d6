-- The rows that INSERT and UPDATE make: they fit where the old ones do and values are of their types; links are kept or drawn.
use Rattle.std.proofs.Common.{◌≡◌, ◌+◌, ℕ, Bool, true, false, List, [], ◌∷◌, All, Result, Ok, if◌then◌else◌, refl, sym, ap, subst, arith}
use Rattle.std.specs.List.{flat_map, list_all}
use Rattle.std.proofs.lemmas.List.Elements.{All-nil}
use Rattle.std.proofs.lemmas.Bool.{and_parts, and_from}
use Rattle.dl_base.specs.declared.column.Column.{Column}
use Rattle.dl_base.specs.declared.sql_fault.SqlFault.{SqlFault}
use Rattle.dl_base.specs.declared.statement.Expr.{Expr}
use Rattle.dl_base.specs.declared.value.LinkRow.{LinkRow}
use Rattle.dl_base.specs.declared.value.Row.{Row}
use Rattle.dl_base.specs.declared.value.Value.{Value}
use Rattle.meaning_sql.specs.declared.Context.{Context}
use Rattle.meaning_sql.specs.declared.SqlType.{SqlType}
use Rattle.meaning_sql.specs.declared.AggregateScope.{AggregateScope}
use Rattle.meaning_sql.specs.declared.AggregateScope.TheVariants as scope
use Rattle.meaning_sql.specs.Columns.{Columns}
use Rattle.meaning_sql.specs.Fitting.{FitsColumns, IsTyped}
use Rattle.meaning_sql.specs.Types.{type_of}
use Rattle.meaning_sql.specs.Values.{meaning, cell}
use Rattle.meaning_statements.specs.Changing.{assigned, arranged, with_cells, inserted_row, inserted_rows, updated_row, updated_rows}
use Rattle.meaning_statements.specs.Sources.{no_row}
use Rattle.meaning_sql.specs.Conditions.{holds_all}
use Rattle.meaning_sql.specs.Faults.{try_map}
use Rattle.meaning_tables.specs.Fits.{fits_columns}
use Rattle.meaning_tables.specs.Links.{row_links}
use Rattle.sql_invariants.proofs.Assigned.{AreOf, taken, inserted_typed, updated_typed}
use Rattle.sql_invariants.proofs.Fitting.{values_typed, fits_own, named}
use Rattle.sql_invariants.proofs.Rows.{as_row, row_fits, row_walk, no_links}
use Rattle.sql_invariants.proofs.Steps.{go_on, given, ok}
use Rattle.sql_invariants.proofs.Walks.{Walk, ends, after, all_kept}

-- an expression that has a type has values of it
abbrev pub ValuesAreTyped : Type 0
ValuesAreTyped = (columns : Columns) (context : Context) (group : List Row) (row : Row) (s : AggregateScope) (e : Expr) (t : SqlType)
    → type_of columns s e ≡ Ok t → FitsColumns columns row → All (FitsColumns columns) group → IsTyped t (meaning columns context group e row)

-- the values of expressions that have types
pub each_typed : ValuesAreTyped → (columns : Columns) (context : Context) (row : Row) (es : List Expr) (types : List SqlType) (vs : List Value) → FitsColumns columns row
    → try_map (type_of columns scope.Row) es ≡ Ok types → try_map (λ e. meaning columns context [] e row) es ≡ Ok vs → AreOf types vs
each_typed law columns context row [] types vs fits have are =
    subst (λ (ts : List SqlType). AreOf ts vs) (given _ types have) (subst (λ (xs : List Value). AreOf [] xs) (given _ vs are) tt)
each_typed law columns context row (e ∷ es) types vs fits have are =
    go_on (type_of columns scope.Row e) have λ t has have.
    go_on (try_map (type_of columns scope.Row) es) have λ ts later have.
    go_on (meaning columns context [] e row) are λ x is are.
    go_on (try_map (λ e. meaning columns context [] e row) es) are λ xs others are.
    let typed = subst (λ m. IsTyped t m) is (law columns context [] row scope.Row e t has fits (All-nil (FitsColumns columns))) in
    subst (λ (us : List SqlType). AreOf us vs) (given _ types have) (subst (λ (ys : List Value). AreOf (t ∷ ts) ys) (given _ vs are) (typed, each_typed law columns context row es ts xs fits later others))

no_row_fits : FitsColumns [] no_row
unfolding cell
no_row_fits = record { one_each = refl; of_kind = λ i. refl }

-- a row that is put in: it fits where the given facts hold
record RowMade (Given : Type 0) (tx k : ℕ) (columns : List Column) (olds : List Value) (q : List Value × ℕ) : Type 0 where
  fits : Given → fits_columns columns q.0 ≡ true
  walk : Walk tx k q.1 (row_links columns olds) (row_links columns q.0)

all_cells : (vs : List Value) (m : ℕ) → cell (as_row vs) (0 + m) ≡ cell (as_row vs) m
all_cells vs m = ap (λ n. cell (as_row vs) n) (let e : 0 + m ≡ m = omega arith in e)

row_inserted : (context : Context) (columns : List Column) (places : List ℕ) (k : ℕ) (tuple : List Expr) (types kept : List SqlType) (q : List Value × ℕ)
    → try_map (type_of [] scope.Row) tuple ≡ Ok types → assigned columns places types ≡ Ok kept → inserted_row context [] no_row columns places k tuple ≡ Ok q → RowMade ValuesAreTyped context.tx k columns [] q
unfolding inserted_row
row_inserted context columns places k tuple types kept q have takes is =
    go_on (try_map (λ e. meaning [] context [] e no_row) tuple) is λ vs are is.
    record {
      fits = λ law.
          let of = each_typed law [] context no_row tuple types vs no_row_fits have are in
          let at = taken columns 0 places types kept vs (as_row vs) takes of (all_cells vs) in
          row_fits context.tx k 0 columns no_row (as_row (arranged 0 columns places (as_row vs))) q is (inserted_typed columns places (as_row vs) at);
      walk = row_walk context.tx k 0 columns no_row (as_row (arranged 0 columns places (as_row vs))) [] q is (all_cells []);
    }

-- whether a row fits; the links of a table's rows
abbrev pub row_fits_in : List Column → ℕ × Row → Bool
row_fits_in columns r = fits_columns columns r.1.values

abbrev pub rows_links : List Column → List (ℕ × Row) → List LinkRow
rows_links columns rows = flat_map (λ r. row_links columns r.1.values) rows

pub record RowsMade (Given : Type 0) (tx k next : ℕ) (columns : List Column) (olds news : List (ℕ × Row)) : Type 0 where
  pub fit : Given → list_all (row_fits_in columns) news ≡ true
  pub walk : Walk tx k next (rows_links columns olds) (rows_links columns news)

inserted_then : (tx k : ℕ) (columns : List Column) (number : ℕ) (row : List Value × ℕ) (rest q : List (ℕ × Row) × ℕ) → RowMade ValuesAreTyped tx k columns [] row → RowsMade ValuesAreTyped tx row.1 rest.1 columns [] rest.0
    → ok ((number, as_row row.0) ∷ rest.0, rest.1) ≡ Ok q → RowsMade ValuesAreTyped tx k q.1 columns [] q.0
inserted_then tx k columns number row rest q made more is =
    subst (λ (p : List (ℕ × Row) × ℕ). RowsMade ValuesAreTyped tx k p.1 columns [] p.0) (given _ q is) (record {
      fit = λ law. and_from (fits_columns columns row.0) (list_all (row_fits_in columns) rest.0) (made.fits law) (more.fit law);
      walk = after (subst (λ (olds : List LinkRow). Walk tx k row.1 olds (row_links columns row.0)) (no_links columns) made.walk) more.walk;
    })

-- the rows of an INSERT
pub rows_inserted : (context : Context) (columns : List Column) (places : List ℕ) (number k : ℕ) (tuples : List (List Expr)) (types kept : List (List SqlType)) (q : List (ℕ × Row) × ℕ)
    → try_map (try_map (type_of [] scope.Row)) tuples ≡ Ok types → try_map (assigned columns places) types ≡ Ok kept
    → inserted_rows context [] no_row columns places number k tuples ≡ Ok q → RowsMade ValuesAreTyped context.tx k q.1 columns [] q.0
rows_inserted context columns places number k [] types kept q have takes is =
    subst (λ (p : List (ℕ × Row) × ℕ). RowsMade ValuesAreTyped context.tx k p.1 columns [] p.0) (given _ q is) (record { fit = λ law. refl; walk = ends })
rows_inserted context columns places number k (t ∷ ts) types kept q have takes is =
    go_on (try_map (type_of [] scope.Row) t) have λ first has have.
    go_on (try_map (try_map (type_of [] scope.Row)) ts) have λ others have_others have.
    let both = subst (λ (xs : List (List SqlType)). try_map (assigned columns places) xs ≡ Ok kept) (sym (given _ types have)) takes in
    go_on (assigned columns places first) both λ one take both.
    go_on (try_map (assigned columns places) others) both λ later take_others both.
    go_on (inserted_row context [] no_row columns places k t) is λ row here is.
    go_on (inserted_rows context [] no_row columns places (number + 1) row.1 ts) is λ rest there is.
    let made = row_inserted context columns places k t first one row has take here in
    let more = rows_inserted context columns places (number + 1) row.1 ts others later rest have_others take_others there in
    inserted_then context.tx k columns number row rest q made more is

-- what is given of an old row, and of all of them
abbrev OldFits : List Column → Row → Type 0
OldFits columns row = ValuesAreTyped × (fits_columns columns row.values ≡ true)

abbrev pub OldsFit : List Column → List (ℕ × Row) → Type 0
OldsFit columns rows = ValuesAreTyped × (list_all (row_fits_in columns) rows ≡ true)

-- a row that is met, and one that is not
row_updated : (name : List ℕ) (context : Context) (columns : List Column) (places : List ℕ) (rights : List Expr) (types kept : List SqlType) (k : ℕ) (row : Row) (q : List Value × ℕ)
    → try_map (type_of (named name columns) scope.Row) rights ≡ Ok types → assigned columns places types ≡ Ok kept
    → updated_row (named name columns) context columns places rights k row ≡ Ok q → RowMade (OldFits columns row) context.tx k columns row.values q
unfolding updated_row
row_updated name context columns places rights types kept k row q have takes is =
    go_on (try_map (λ e. meaning (named name columns) context [] e row) rights) is λ vs are is.
    record {
      fits = λ old.
          let of = each_typed old.0 (named name columns) context row rights types vs (fits_own name columns row.values old.1) have are in
          let at = taken columns 0 places types kept vs (as_row vs) takes of (all_cells vs) in
          row_fits context.tx k 0 columns row (as_row (with_cells places (as_row vs) 0 row.values)) q is (updated_typed columns places (as_row vs) row.values at (values_typed columns row.values old.1));
      walk = row_walk context.tx k 0 columns row (as_row (with_cells places (as_row vs) 0 row.values)) row.values q is (all_cells row.values);
    }

row_met : (tx k : ℕ) (columns : List Column) (row : Row) (met : Bool) (m : Result (List Value × ℕ) SqlFault) (q : List Value × ℕ)
    → ((p : List Value × ℕ) → m ≡ Ok p → RowMade (OldFits columns row) tx k columns row.values p) → (if met then m else Ok (row.values, k)) ≡ Ok q → RowMade (OldFits columns row) tx k columns row.values q
row_met tx k columns row true m q updated is = updated q is
row_met tx k columns row false m q updated is =
    subst (λ (p : List Value × ℕ). RowMade (OldFits columns row) tx k columns row.values p) (given _ q is) (record { fits = λ old. old.1; walk = all_kept tx k (row_links columns row.values) })

updated_then : (tx k : ℕ) (columns : List Column) (r : ℕ × Row) (rs : List (ℕ × Row)) (one : List Value × ℕ) (rest : List (ℕ × Row) × (ℕ × ℕ)) (met : ℕ) (q : List (ℕ × Row) × (ℕ × ℕ))
    → RowMade (OldFits columns r.1) tx k columns r.1.values one → RowsMade (OldsFit columns rs) tx one.1 rest.1.0 columns rs rest.0
    → ok ((r.0, as_row one.0) ∷ rest.0, (rest.1.0, rest.1.1 + met)) ≡ Ok q → RowsMade (OldsFit columns (r ∷ rs)) tx k q.1.0 columns (r ∷ rs) q.0
updated_then tx k columns r rs one rest met q made more is =
    subst (λ (p : List (ℕ × Row) × (ℕ × ℕ)). RowsMade (OldsFit columns (r ∷ rs)) tx k p.1.0 columns (r ∷ rs) p.0) (given _ q is) (record {
      fit = λ old.
          let both = and_parts (fits_columns columns r.1.values) (list_all (row_fits_in columns) rs) old.1 in
          and_from (fits_columns columns one.0) (list_all (row_fits_in columns) rest.0) (made.fits (old.0, both.0)) (more.fit (old.0, both.1));
      walk = after made.walk more.walk;
    })

-- the rows of an UPDATE
pub rows_updated : (name : List ℕ) (context : Context) (columns : List Column) (conditions : List Expr) (places : List ℕ) (rights : List Expr) (types kept : List SqlType) (k : ℕ) (rows : List (ℕ × Row)) (q : List (ℕ × Row) × (ℕ × ℕ))
    → try_map (type_of (named name columns) scope.Row) rights ≡ Ok types → assigned columns places types ≡ Ok kept
    → updated_rows (named name columns) context columns conditions places rights k rows ≡ Ok q → RowsMade (OldsFit columns rows) context.tx k q.1.0 columns rows q.0
rows_updated name context columns conditions places rights types kept k [] q have takes is =
    subst (λ (p : List (ℕ × Row) × (ℕ × ℕ)). RowsMade (OldsFit columns []) context.tx k p.1.0 columns [] p.0) (given _ q is) (record { fit = λ old. refl; walk = ends })
rows_updated name context columns conditions places rights types kept k (r ∷ rs) q have takes is =
    go_on (holds_all (named name columns) context conditions r.1) is λ met _ is.
    go_on (if met then updated_row (named name columns) context columns places rights k r.1 else Ok (r.1.values, k)) is λ one here is.
    go_on (updated_rows (named name columns) context columns conditions places rights one.1 rs) is λ rest there is.
    let made = row_met context.tx k columns r.1 met (updated_row (named name columns) context columns places rights k r.1) one
    (λ p is. row_updated name context columns places rights types kept k r.1 p have takes is) here in
    let more = rows_updated name context columns conditions places rights types kept one.1 rs rest have takes there in
    updated_then context.tx k columns r rs one rest (if met then 1 else 0) q made more is
