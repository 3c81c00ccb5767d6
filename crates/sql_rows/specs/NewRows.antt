-- Steps of a proof, which nobody need read: `tuple_rows`, once its rows have numbers (`counted`), equals `inserted_rows` of the meaning of statements (`Changing`).
use Rattle.std.specs.Prelude.{ℕ, ◌+◌, List, [], ◌∷◌, Result, Ok}
use Rattle.dl_base.specs.declared.column.Column.{Column}
use Rattle.dl_base.specs.declared.sql_fault.SqlFault.{SqlFault}
use Rattle.dl_base.specs.declared.statement.Expr.{Expr}
use Rattle.dl_base.specs.declared.value.Row.{Row}
use Rattle.meaning_sql.specs.declared.Context.{Context}
use Rattle.meaning_sql.specs.Columns.{Columns}
use Rattle.meaning_sql.specs.Faults.{◌>>=◌}
use Rattle.meaning_statements.specs.Changing.{inserted_row}

-- tuples in order, and the next link number
abbrev pub tuple_rows : Context → Columns → Row → List Column → List ℕ → ℕ → List (List Expr) → Result (List Row × ℕ) SqlFault
tuple_rows context seen at columns places k [] = Ok ([], k)
tuple_rows context seen at columns places k (t ∷ ts) =
    inserted_row context seen at columns places k t >>= λ row. tuple_rows context seen at columns places row.1 ts >>= λ rest. Ok (record { values = row.0 } ∷ rest.0, rest.1)

-- rows under numbers from one on
abbrev pub counted : ℕ → List Row → List (ℕ × Row)
counted number [] = []
counted number (r ∷ rs) = (number, r) ∷ counted (number + 1) rs
