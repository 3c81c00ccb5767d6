-- What a statement comes to: a refusal that leaves all as it was, or an answer. Without the bound of the number of tables it comes to
-- the same, unless that bound refused it.
use Rattle.std.proofs.Common.{◌≡◌, ℕ, ◌++◌, Bool, true, false, List, [], ◌∷◌, length, is_none, Result, Ok, Err, nat_le, nat_lt, refl, sym, ◌∙◌, ap}
use Rattle.dl_base.specs.Limits.{most_columns, most_tables}
use Rattle.dl_base.specs.declared.answer.Answer.{Answer}
use Rattle.dl_base.specs.declared.answer.Answer.TheVariants as answers
use Rattle.dl_base.specs.declared.answer.Limit.TheVariants as limits
use Rattle.dl_base.specs.declared.answer.Refusal.TheVariants as reasons
use Rattle.dl_base.specs.declared.sql_fault.SqlFault.{SqlFault}
use Rattle.dl_base.specs.declared.sql_fault.SqlFault.TheVariants as faults
use Rattle.dl_base.specs.declared.statement.ColumnDef.{ColumnDef}
use Rattle.dl_base.specs.declared.statement.Stmt.{Stmt}
use Rattle.dl_base.specs.declared.statement.Stmt.TheVariants as statements
use Rattle.dl_base.specs.declared.value.Row.{Row}
use Rattle.meaning_sql.specs.declared.Context.{Context}
use Rattle.meaning_sql.specs.Faults.{◌>>=◌, ensure}
use Rattle.meaning_statements.specs.Changing.{Changed, change, create}
use Rattle.meaning_statements.specs.Creating.{columns_made}
use Rattle.meaning_statements.specs.Selecting.{select}
use Rattle.meaning_tables.specs.Tables.{Tables, new_table, table_of}
use Rattle.meaning_system.specs.Sql.{Evaluated, after_change, after_select, evaluated}
use Rattle.meaning_serial.specs.Freely.{create_freely, evaluated_freely, is_left_out}

-- ---- an answer, or a refusal

pub data Came (tables : Tables) (k : ℕ) : Evaluated → Type 0 where
  refusal : (fault : SqlFault) → Came tables k (record { answer = answers.Refused (reasons.Sql fault); refused = true; tables = tables; next = k })
  result : (answer : Answer) (after : Tables) (next : ℕ) → is_left_out answer ≡ false → Came tables k (record { answer = answer; refused = false; tables = after; next = next })

came-changed : (tables : Tables) (defines : Bool) (k : ℕ) (o : Result Changed SqlFault) → Came tables k (after_change tables defines k o)
came-changed tables true k (Ok made) = result answers.Done made.tables made.next refl
came-changed tables false k (Ok made) = result (answers.Changed made.count) made.tables made.next refl
came-changed tables defines k (Err fault) = refusal fault

came-asked : (tables : Tables) (k : ℕ) (o : Result (List Row) SqlFault) → Came tables k (after_select tables k o)
came-asked tables k (Ok rows) = result (answers.Rows (record { rows = rows })) tables k refl
came-asked tables k (Err fault) = refusal fault

pub came : (tables : Tables) (stmt : Stmt) (context : Context) (k : ℕ) → Came tables k (evaluated tables stmt context k)
unfolding evaluated
came tables statements.Begin context k = came-changed tables false k (change tables statements.Begin context k)
came tables statements.Commit context k = came-changed tables false k (change tables statements.Commit context k)
came tables statements.Rollback context k = came-changed tables false k (change tables statements.Rollback context k)
came tables (statements.CreateTable name columns) context k = came-changed tables true k (change tables (statements.CreateTable name columns) context k)
came tables (statements.DropTable name) context k = came-changed tables true k (change tables (statements.DropTable name) context k)
came tables (statements.Insert name names tuples) context k = came-changed tables false k (change tables (statements.Insert name names tuples) context k)
came tables (statements.Update name sets filter) context k = came-changed tables false k (change tables (statements.Update name sets filter) context k)
came tables (statements.Delete name filter) context k = came-changed tables false k (change tables (statements.Delete name filter) context k)
came tables (statements.Select q) context k = came-asked tables k (select tables q context)

-- ---- the bound

-- two tests before the rest, of which the second is left out
module _ (first second : SqlFault) (rest : Result Changed SqlFault) where
  one-less : (a b : Bool) → ((ensure a first >>= λ x. ensure b second >>= λ y. rest) ≡ Err second → ⊥) → (ensure a first >>= λ x. ensure b second >>= λ y. rest) ≡ (ensure a first >>= λ x. rest)
  one-less false b not = refl
  one-less true true not = refl
  one-less true false not = absurd (not refl)

abbrev made_by : Tables → List ℕ → List ColumnDef → ℕ → Result Changed SqlFault
made_by tables name columns k =
    ensure (nat_le (length columns) most_columns) (faults.Limit limits.Columns) >>= λ few.
    columns_made [] false columns >>= λ made.
    Ok (record { tables = tables ++ (name, new_table made) ∷ []; next = k; count = 0 })

create-free : (tables : Tables) (name : List ℕ) (columns : List ColumnDef) (k : ℕ) → (create tables name columns k ≡ Err (faults.Limit limits.Tables) → ⊥) → create tables name columns k ≡ create_freely tables name columns k
unfolding create create_freely
create-free tables name columns k not = one-less (faults.TableExists name) (faults.Limit limits.Tables) (made_by tables name columns k) (is_none (table_of tables name)) (nat_lt (length tables) most_tables) not

pub free : (tables : Tables) (stmt : Stmt) (context : Context) (k : ℕ) → is_left_out (evaluated tables stmt context k).answer ≡ false → evaluated tables stmt context k ≡ evaluated_freely tables stmt context k
unfolding evaluated evaluated_freely
free tables (statements.CreateTable name columns) context k meant = ap (after_change tables true k) (create-free tables name columns k (λ is. true_false (sym (ap (λ (o : Result Changed SqlFault). is_left_out (after_change tables true k o).answer) is) ∙ meant)))
  where
    true_false : true ≡ false → ⊥
    true_false e = cc
free tables (statements.DropTable name) context k meant = refl
free tables (statements.Insert name names tuples) context k meant = refl
free tables (statements.Update name sets filter) context k meant = refl
free tables (statements.Delete name filter) context k meant = refl
free tables (statements.Select q) context k meant = refl
free tables statements.Begin context k meant = refl
free tables statements.Commit context k meant = refl
free tables statements.Rollback context k meant = refl
