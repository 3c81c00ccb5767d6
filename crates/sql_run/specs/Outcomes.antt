-- What a statement answers, and the tables after it, as the code tells it: the machine's `evaluated` (`meaning_system`, `Sql`) is this one with its answer (`an_evaluation_is_the_machines`).
use Rattle.std.specs.Prelude.{ℕ, List, [], Result, Ok, Err}
use Rattle.dl_base.specs.declared.answer.Answer.{Answer}
use Rattle.dl_base.specs.declared.answer.Answer.TheVariants as answers
use Rattle.dl_base.specs.declared.answer.Refusal.TheVariants as reasons
use Rattle.dl_base.specs.declared.sql_fault.SqlFault.{SqlFault}
use Rattle.dl_base.specs.declared.statement.Stmt.{Stmt}
use Rattle.dl_base.specs.declared.statement.Stmt.TheVariants as statements
use Rattle.dl_base.specs.declared.value.Grid.{Grid}
use Rattle.dl_base.specs.declared.value.Row.{Row}
use Rattle.meaning_sql.specs.declared.Context.{Context}
use Rattle.meaning_statements.specs.Changing.{Changed, change}
use Rattle.meaning_statements.specs.Selecting.{select}
use Rattle.meaning_tables.specs.Tables.{Tables}
use Rattle.sql_change.specs.declared.changing.Changed.{Changed as Told}
use Rattle.sql_run.specs.declared.evaluating.Outcome.{Outcome}
use Rattle.sql_run.specs.declared.evaluating.Outcome.TheVariants as outcomes

-- an outcome, the tables after the statement, and the next link number
pub record Evaluation : Type 0 where
  pub outcome : Outcome
  pub tables : Tables
  pub next : ℕ

-- the outcome of a number of rows, of no rows to speak of, and of the rows of a query; or of a refusal
abbrev pub counted : Result ℕ SqlFault → Outcome
counted (Ok count) = outcomes.Changed count
counted (Err fault) = outcomes.Refused fault

abbrev pub done : Result ℕ SqlFault → Outcome
done (Ok count) = outcomes.Done
done (Err fault) = outcomes.Refused fault

abbrev pub rows_answered : Result Grid SqlFault → Outcome
rows_answered (Ok grid) = outcomes.Rows grid
rows_answered (Err fault) = outcomes.Refused fault

abbrev pub selected : Result (List Row) SqlFault → Outcome
selected (Ok rows) = outcomes.Rows (record { rows = rows })
selected (Err fault) = outcomes.Refused fault

-- after a change, whose outcome tells a number of rows or none; after a refusal all is as before
abbrev pub after_change : Tables → ℕ → (Result ℕ SqlFault → Outcome) → Result Changed SqlFault → Evaluation
after_change tables k tell (Ok made) = record { outcome = tell (Ok made.count); tables = made.tables; next = made.next }
after_change tables k tell (Err fault) = record { outcome = tell (Err fault); tables = tables; next = k }

-- a statement over tables, with the next link number k
abbrev pub evaluated : Tables → Stmt → Context → ℕ → Evaluation
evaluated tables (statements.Select query) context k = record { outcome = selected (select tables query context); tables = tables; next = k }
evaluated tables (statements.Insert name names tuples) context k = after_change tables k counted (change tables (statements.Insert name names tuples) context k)
evaluated tables (statements.Update name sets filter) context k = after_change tables k counted (change tables (statements.Update name sets filter) context k)
evaluated tables (statements.Delete name filter) context k = after_change tables k counted (change tables (statements.Delete name filter) context k)
evaluated tables (statements.CreateTable name columns) context k = after_change tables k done (change tables (statements.CreateTable name columns) context k)
evaluated tables (statements.DropTable name) context k = after_change tables k done (change tables (statements.DropTable name) context k)
evaluated tables statements.Begin context k = record { outcome = outcomes.Done; tables = tables; next = k }
evaluated tables statements.Commit context k = record { outcome = outcomes.Done; tables = tables; next = k }
evaluated tables statements.Rollback context k = record { outcome = outcomes.Done; tables = tables; next = k }

-- how many rows were put in, met or removed, and which
abbrev pub count_of : Result Told SqlFault → Result ℕ SqlFault
count_of (Ok told) = Ok told.count
count_of (Err fault) = Err fault

abbrev pub touched_of : Result Told SqlFault → List ℕ
touched_of (Ok told) = told.touched
touched_of (Err fault) = []

-- how many rows an outcome tells of as put in, met or removed
abbrev pub rows_changed : Outcome → ℕ
rows_changed (outcomes.Changed count) = count
rows_changed (outcomes.Rows grid) = 0
rows_changed outcomes.Done = 0
rows_changed (outcomes.Refused fault) = 0

-- the answer that is told of an outcome
abbrev pub answer_of : Outcome → Answer
answer_of (outcomes.Changed count) = answers.Changed count
answer_of (outcomes.Rows grid) = answers.Rows grid
answer_of outcomes.Done = answers.Done
answer_of (outcomes.Refused fault) = answers.Refused (reasons.Sql fault)
