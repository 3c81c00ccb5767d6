-- Rows that an INSERT puts in, without and with their numbers.
use Rattle.std.proofs.Common.{◌≡◌, ℕ, ◌+◌, List, [], ◌∷◌, Result, Ok, Err, refl}
use Rattle.dl_base.specs.declared.column.Column.{Column}
use Rattle.dl_base.specs.declared.sql_fault.SqlFault.{SqlFault}
use Rattle.dl_base.specs.declared.statement.Expr.{Expr}
use Rattle.dl_base.specs.declared.value.Row.{Row}
use Rattle.dl_base.specs.declared.value.Value.{Value}
use Rattle.meaning_sql.specs.declared.Context.{Context}
use Rattle.meaning_sql.specs.Columns.{Columns}
use Rattle.meaning_sql.specs.Faults.{◌>>=◌, and_then}
use Rattle.meaning_statements.specs.Changing.{inserted_row, inserted_rows}
use Rattle.sql_rows.specs.NewRows.{tuple_rows, counted}

abbrev numbered_behind : ℕ → List Value → List (ℕ × Row) × ℕ → Result (List (ℕ × Row) × ℕ) SqlFault
numbered_behind number values rest = Ok ((number, record { values = values }) ∷ rest.0, rest.1)

abbrev row_behind : List Value → List Row × ℕ → Result (List Row × ℕ) SqlFault
row_behind values rest = Ok (record { values = values } ∷ rest.0, rest.1)

abbrev under : ℕ → List Row × ℕ → Result (List (ℕ × Row) × ℕ) SqlFault
under number q = Ok (counted number q.0, q.1)

behind : (number : ℕ) (values : List Value) (numbers : Result (List (ℕ × Row) × ℕ) SqlFault) (rows : Result (List Row × ℕ) SqlFault)
    → numbers ≡ (rows >>= under (number + 1)) → (numbers >>= numbered_behind number values) ≡ ((rows >>= row_behind values) >>= under number)
behind number values numbers (Ok rows) is = rw is refl
behind number values numbers (Err e) is = rw is refl

one_more : (number : ℕ) (one : Result (List Value × ℕ) SqlFault) (numbers : ℕ → Result (List (ℕ × Row) × ℕ) SqlFault) (rows : ℕ → Result (List Row × ℕ) SqlFault)
    → ((k : ℕ) → numbers k ≡ (rows k >>= under (number + 1)))
    → (one >>= λ row. numbers row.1 >>= numbered_behind number row.0) ≡ ((one >>= λ row. rows row.1 >>= row_behind row.0) >>= under number)
one_more number (Ok row) numbers rows are = behind number row.0 (numbers row.1) (rows row.1) (are row.1)
one_more number (Err e) numbers rows are = refl

pub numbered : (context : Context) (seen : Columns) (at : Row) (columns : List Column) (places : List ℕ) (number k : ℕ) (tuples : List (List Expr))
    → inserted_rows context seen at columns places number k tuples ≡ and_then (tuple_rows context seen at columns places k tuples) (under number)
numbered context seen at columns places number k [] = refl
numbered context seen at columns places number k (t ∷ ts) =
    one_more number (inserted_row context seen at columns places k t) (λ j. inserted_rows context seen at columns places (number + 1) j ts) (λ j. tuple_rows context seen at columns places j ts)
    (λ j. numbered context seen at columns places (number + 1) j ts)
