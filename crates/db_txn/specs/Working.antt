-- What holds of the work of a transaction.
use Rattle.std.specs.Prelude.{◌≡◌, ◌≢◌, ◌≤◌, ◌==◌, ℕ, List, [], ◌∷◌, Option, Some, None, filter, length}
use Rattle.dl_base.specs.Limits.{link_numbers, most_tables}
use Rattle.dl_base.specs.declared.sql_fault.SqlFault.TheVariants as faults
use Rattle.dl_base.specs.declared.statement.Stmt.{Stmt}
use Rattle.db_changes.specs.Touched.{Adds, Covers, Touched}
use Rattle.meaning_merge.specs.History.{changed_by}
use Rattle.meaning_tables.specs.Fits.{RowsFit}
use Rattle.meaning_tables.specs.Tables.{Tables}
use Rattle.sql_run.specs.declared.evaluating.Outcome.TheVariants as outcomes
use Rattle.db_txn.specs.Transaction.{LastEvaluation}
use Rattle.db_txn.specs.declared.work.Before.{Before}
use Rattle.db_txn.specs.declared.work.Work.{Work}

-- how many tables are just made
abbrev pub count_made : Tables → ℕ
count_made tables = length (filter (λ t. t.1.version == 0) tables)

-- Work on a base: rows fit, link numbers are left or all drawn, touched rows cover what copy and base differ in, and as many tables
-- are made as a record of a commit may have.
pub record IsWork (base copy : Tables) (next : ℕ) (touched : Touched) : Type 0 where
  pub rows : RowsFit copy
  pub numbers : next ≤ link_numbers
  pub covers : Covers touched base copy
  pub few : count_made copy ≤ most_tables

abbrev pub IsWorkOn : Tables → Work → Type 0
IsWorkOn base w = IsWork base w.copy w.next w.touched

-- the same of the work that an evaluation found, whose outcome is never that there was no memory
abbrev pub IsBefore : Tables → Option Before → Type 0
IsBefore base None = Unit {0}
IsBefore base (Some b) = IsWorkOn base b.work × (b.outcome ≢ outcomes.Refused faults.Memory)

-- what contracts see of it
abbrev pub kept_of : Option Before → Option LastEvaluation
kept_of None = None
kept_of (Some b) = Some (record { outcome = b.outcome; copy = b.work.copy; named = b.work.named; next = b.work.next })

-- the rows of a statement's table are touched, where it changes one
abbrev pub AddsTo : List (List ℕ) → List ℕ → Touched → Touched → Type 0
AddsTo [] numbers touched more = more ≡ touched
AddsTo (name ∷ names) numbers touched more = Adds name numbers touched more

abbrev pub AddsRows : Stmt → List ℕ → Touched → Touched → Type 0
AddsRows stmt numbers touched more = AddsTo (changed_by stmt) numbers touched more
