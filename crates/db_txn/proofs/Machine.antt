-- An evaluation is that of the one machine.
use Rattle.std.proofs.Common.{◌≡◌, ℕ, List, true, false, Result, Ok, Err, refl}
use Rattle.dl_base.specs.declared.sql_fault.SqlFault.{SqlFault}
use Rattle.dl_base.specs.declared.statement.Stmt.{Stmt}
use Rattle.dl_base.specs.declared.statement.Stmt.TheVariants as statements
use Rattle.dl_base.specs.declared.value.Row.{Row}
use Rattle.meaning_sql.specs.declared.Context.{Context}
use Rattle.meaning_statements.specs.Changing.{Changed, change}
use Rattle.meaning_statements.specs.Selecting.{select}
use Rattle.meaning_system.specs.Sql.{Evaluated, after_change, after_select, evaluated}
use Rattle.meaning_tables.specs.Tables.{Tables}
use Rattle.sql_run.specs.Outcomes as run
use Rattle.db_txn.specs.Transaction.{is_evaluated, is_refused}

-- what is told of an evaluation
abbrev told : run.Evaluation → Evaluated
told e = record { answer = run.answer_of e.outcome; refused = is_refused e.outcome; tables = e.tables; next = e.next }

defined : (tables : Tables) (k : ℕ) (r : Result Changed SqlFault) → after_change tables true k r ≡ told (run.after_change tables k run.done r)
defined tables k (Ok made) = refl
defined tables k (Err fault) = refl

counted : (tables : Tables) (k : ℕ) (r : Result Changed SqlFault) → after_change tables false k r ≡ told (run.after_change tables k run.counted r)
counted tables k (Ok made) = refl
counted tables k (Err fault) = refl

selected : (tables : Tables) (k : ℕ) (r : Result (List Row) SqlFault) → after_select tables k r ≡ told (record { outcome = run.selected r; tables = tables; next = k })
selected tables k (Ok rows) = refl
selected tables k (Err fault) = refl

pub the_machines : (tables : Tables) (stmt : Stmt) (context : Context) (k : ℕ) → is_evaluated stmt ≡ true → evaluated tables stmt context k ≡ told (run.evaluated tables stmt context k)
unfolding evaluated
the_machines tables (statements.CreateTable name columns) context k plain = defined tables k (change tables (statements.CreateTable name columns) context k)
the_machines tables (statements.DropTable name) context k plain = defined tables k (change tables (statements.DropTable name) context k)
the_machines tables (statements.Insert name names tuples) context k plain = counted tables k (change tables (statements.Insert name names tuples) context k)
the_machines tables (statements.Update name sets filter) context k plain = counted tables k (change tables (statements.Update name sets filter) context k)
the_machines tables (statements.Delete name filter) context k plain = counted tables k (change tables (statements.Delete name filter) context k)
the_machines tables (statements.Select query) context k plain = selected tables k (select tables query context)
the_machines tables statements.Begin context k plain = absurd cc
the_machines tables statements.Commit context k plain = absurd cc
the_machines tables statements.Rollback context k plain = absurd cc
