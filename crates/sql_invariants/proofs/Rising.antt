-- Row numbers rise in what INSERT, UPDATE and DELETE make of rows.
use Rattle.std.proofs.Common.{◌≡◌, ◌+◌, ◌++◌, ◌<◌, ◌≤◌, ℕ, suc, List, [], ◌∷◌, length, Ok, if◌then◌else◌, subst, arith}
use Rattle.dl_base.specs.declared.column.Column.{Column}
use Rattle.dl_base.specs.declared.statement.Expr.{Expr}
use Rattle.dl_base.specs.declared.value.Row.{Row}
use Rattle.meaning_sql.specs.declared.Context.{Context}
use Rattle.meaning_sql.specs.Columns.{Columns}
use Rattle.meaning_statements.specs.Changing.{inserted_row, inserted_rows, updated_row, updated_rows}
use Rattle.meaning_sql.specs.Conditions.{holds_all}
use Rattle.meaning_tables.specs.Tables.{Rise}
use Rattle.meaning_tables.proofs.Numbered.{rise-from}
use Rattle.sql_invariants.proofs.Left.{Left, none, leaves, stays}
use Rattle.sql_invariants.proofs.Steps.{go_on, given}

-- rows that are put in have the next numbers
pub inserted_rise : (context : Context) (seen : Columns) (at : Row) (columns : List Column) (places : List ℕ) (number k : ℕ) (tuples : List (List Expr)) (q : List (ℕ × Row) × ℕ)
    → inserted_rows context seen at columns places number k tuples ≡ Ok q → Rise number (number + length tuples) q.0
inserted_rise context seen at columns places number k [] q is = subst (λ (p : List (ℕ × Row) × ℕ). Rise number (number + 0) p.0) (given _ q is) tt
inserted_rise context seen at columns places number k (t ∷ ts) q is =
    go_on (inserted_row context seen at columns places k t) is λ row _ is.
    go_on (inserted_rows context seen at columns places (number + 1) row.1 ts) is λ rest later is.
    let past : number + 1 + length ts ≡ number + suc (length ts) = omega arith in
    let below : number < number + suc (length ts) = omega arith in
    let others = subst (λ n. Rise (number + 1) n rest.0) past (inserted_rise context seen at columns places (number + 1) row.1 ts rest later) in
    subst (λ (p : List (ℕ × Row) × ℕ). Rise number (number + suc (length ts)) p.0) (given _ q is) (omega arith, below, others)

-- rows behind others
pub rise_behind : (first middle below : ℕ) (rows more : List (ℕ × Row)) → first ≤ middle → middle ≤ below → Rise first middle rows → Rise middle below more → Rise first below (rows ++ more)
rise_behind first middle below [] more le up rise later = rise-from middle first below more le later
rise_behind first middle below (r ∷ rs) more le up rise later =
    (rise.0, omega (arith, rise.1, up), rise_behind (r.0 + 1) middle below rs more (omega (arith, rise.1)) up rise.2 later)

-- rows that are updated keep their numbers
pub updated_rise : (all : Columns) (context : Context) (columns : List Column) (conditions : List Expr) (places : List ℕ) (rights : List Expr) (first below k : ℕ) (rows : List (ℕ × Row)) (q : List (ℕ × Row) × (ℕ × ℕ))
    → updated_rows all context columns conditions places rights k rows ≡ Ok q → Rise first below rows → Rise first below q.0
updated_rise all context columns conditions places rights first below k [] q is rise = subst (λ (p : List (ℕ × Row) × (ℕ × ℕ)). Rise first below p.0) (given _ q is) tt
updated_rise all context columns conditions places rights first below k (r ∷ rs) q is rise =
    go_on (holds_all all context conditions r.1) is λ met _ is.
    go_on (if met then updated_row all context columns places rights k r.1 else Ok (r.1.values, k)) is λ one _ is.
    go_on (updated_rows all context columns conditions places rights one.1 rs) is λ rest later is.
    let others = updated_rise all context columns conditions places rights (r.0 + 1) below one.1 rs rest later rise.2 in
    subst (λ (p : List (ℕ × Row) × (ℕ × ℕ)). Rise first below p.0) (given _ q is) (rise.0, rise.1, others)

-- rows that are left keep theirs
pub left_rise : (first below : ℕ) {olds news : List (ℕ × Row)} → Left olds news → Rise first below olds → Rise first below news
left_rise first below none rise = tt
left_rise first below (leaves {ys = ys} r left) rise = rise-from (r.0 + 1) first below ys (omega (arith, rise.0)) (left_rise (r.0 + 1) below left rise.2)
left_rise first below (stays r left) rise = (rise.0, rise.1, left_rise (r.0 + 1) below left rise.2)
