-- What contracts see of the transaction of a session.
use Rattle.std.specs.Prelude.{ℕ, Bool, true, false, List, [], Option, Some, None, unwrap_or}
use Rattle.dl_base.specs.declared.statement.Stmt.{Stmt}
use Rattle.dl_base.specs.declared.statement.Stmt.TheVariants as statements
use Rattle.db_changes.specs.Handles.{handles}
use Rattle.db_changes.specs.Made.{Making}
use Rattle.meaning_merge.specs.Merging.{commit_changes}
use Rattle.meaning_system.specs.Claims.{with_names}
use Rattle.meaning_system.specs.Sql.{named_by}
use Rattle.meaning_tables.specs.Tables.{Tables}
use Rattle.sql_run.specs.Outcomes.{Evaluation}
use Rattle.sql_run.specs.declared.evaluating.Outcome.{Outcome}
use Rattle.sql_run.specs.declared.evaluating.Outcome.TheVariants as outcomes
use Rattle.db_txn.specs.Branching.{has_branch}

-- The last evaluation: its outcome, and what it found.
pub record LastEvaluation : Type 0 where
  pub outcome : Outcome
  pub copy : Tables
  pub named : List (List ℕ)
  pub next : ℕ

-- The session and the number of its transaction; the tables on which that began and its copy of them, the tables that its statements
-- named, in order, and the next count of its link numbers; whether what it made is told, after which it is not active; and its last
-- evaluation, as long as that is kept.
pub record Transaction : Type 0 where
  pub session : ℕ
  pub tx : Option ℕ
  pub base : Tables
  pub copy : Tables
  pub named : List (List ℕ)
  pub next : ℕ
  pub made : Bool
  pub kept : Option LastEvaluation

-- a session without a transaction
abbrev pub vacant : ℕ → Transaction
vacant session = record { session = session; tx = None; base = []; copy = []; named = []; next = 1; made = false; kept = None }

-- a transaction that has only begun
abbrev pub begun : ℕ → ℕ → Tables → Transaction
begun session tx tables = record { session = session; tx = Some tx; base = tables; copy = tables; named = []; next = 1; made = false; kept = None }

-- none of BEGIN, COMMIT and ROLLBACK
abbrev pub is_evaluated : Stmt → Bool
is_evaluated statements.Begin = false
is_evaluated statements.Commit = false
is_evaluated statements.Rollback = false
is_evaluated _ = true

abbrev pub is_refused : Outcome → Bool
is_refused (outcomes.Refused fault) = true
is_refused _ = false

-- after the evaluation of a statement, which is kept with what it found
abbrev pub after_evaluation : Transaction → Stmt → Evaluation → Transaction
after_evaluation t stmt e = record {
  session = t.session;
  tx = t.tx;
  base = t.base;
  copy = e.tables;
  named = with_names t.named (named_by stmt);
  next = e.next;
  made = t.made;
  kept = Some (record { outcome = e.outcome; copy = t.copy; named = t.named; next = t.next });
}

-- without the last evaluation, but with the tables that it named
abbrev pub back_to : Transaction → Option LastEvaluation → Transaction
back_to t None = t
back_to t (Some k) = record { session = t.session; tx = t.tx; base = t.base; copy = k.copy; named = t.named; next = k.next; made = t.made; kept = None }

-- without the last evaluation, and without the tables that it named first
abbrev pub undone_to : Transaction → Option LastEvaluation → Transaction
undone_to t None = t
undone_to t (Some k) = record { session = t.session; tx = t.tx; base = t.base; copy = k.copy; named = k.named; next = k.next; made = t.made; kept = None }

-- the last evaluation stands
abbrev pub standing : Transaction → Transaction
standing t = record { session = t.session; tx = t.tx; base = t.base; copy = t.copy; named = t.named; next = t.next; made = t.made; kept = None }

abbrev pub with_made : Transaction → Bool → Transaction
with_made t made = record { session = t.session; tx = t.tx; base = t.base; copy = t.copy; named = t.named; next = t.next; made = made; kept = t.kept }

-- the commit of what it has made of its base
abbrev pub made_of : Transaction → Making
made_of t = record { tx = unwrap_or t.tx 0; branch = has_branch t.base t.copy; changes = commit_changes t.base t.copy; handles = handles t.base t.copy; rooms = 1 }
