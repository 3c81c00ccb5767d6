-- A statement of plain SQL where the number of tables has no bound. (That bound counts all tables of a transaction's copy, whichever
-- the statement names.)
use Rattle.std.specs.Prelude.{ℕ, Bool, true, false, List, [], ◌∷◌, ◌++◌, length, is_none, Result, Ok, nat_le}
use Rattle.dl_base.specs.Limits.{most_columns}
use Rattle.dl_base.specs.declared.answer.Answer.{Answer}
use Rattle.dl_base.specs.declared.answer.Answer.TheVariants as answers
use Rattle.dl_base.specs.declared.answer.Limit.{Limit}
use Rattle.dl_base.specs.declared.answer.Limit.TheVariants as limits
use Rattle.dl_base.specs.declared.answer.Refusal.{Refusal}
use Rattle.dl_base.specs.declared.answer.Refusal.TheVariants as reasons
use Rattle.dl_base.specs.declared.sql_fault.SqlFault.{SqlFault}
use Rattle.dl_base.specs.declared.sql_fault.SqlFault.TheVariants as faults
use Rattle.dl_base.specs.declared.statement.ColumnDef.{ColumnDef}
use Rattle.dl_base.specs.declared.statement.Stmt.{Stmt}
use Rattle.dl_base.specs.declared.statement.Stmt.TheVariants as statements
use Rattle.meaning_sql.specs.declared.Context.{Context}
use Rattle.meaning_sql.specs.Faults.{◌>>=◌, ensure}
use Rattle.meaning_statements.specs.Changing.{Changed}
use Rattle.meaning_statements.specs.Creating.{columns_made}
use Rattle.meaning_system.specs.Sql.{Evaluated, after_change, evaluated}
use Rattle.meaning_tables.specs.Tables.{Tables, new_table, table_of}

unfoldable pub create_freely : Tables → List ℕ → List ColumnDef → ℕ → Result Changed SqlFault
create_freely tables name columns k = do
  absent ← ensure (is_none (table_of tables name)) (faults.TableExists name)
  few ← ensure (nat_le (length columns) most_columns) (faults.Limit limits.Columns)
  made ← columns_made [] false columns
  Ok (record { tables = tables ++ (name, new_table made) ∷ []; next = k; count = 0 })

unfoldable pub evaluated_freely : Tables → Stmt → Context → ℕ → Evaluated
evaluated_freely tables (statements.CreateTable name columns) context k = after_change tables true k (create_freely tables name columns k)
evaluated_freely tables stmt context k = evaluated tables stmt context k

-- WHAT IS LEFT OUT where a transaction's statements are evaluated once more: what its claim refused after evaluation, and what was
-- refused by that bound. Other refusals of a statement are its meaning.

abbrev pub is_tables : Limit → Bool
is_tables limits.Tables = true
is_tables _ = false

abbrev pub is_of_bound : SqlFault → Bool
is_of_bound (faults.Limit limit) = is_tables limit
is_of_bound _ = false

abbrev pub is_no_meaning : Refusal → Bool
is_no_meaning (reasons.Sql fault) = is_of_bound fault
is_no_meaning _ = true

abbrev pub is_left_out : Answer → Bool
is_left_out (answers.Refused why) = is_no_meaning why
is_left_out _ = false
