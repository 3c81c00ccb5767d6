-- What is kept of the sessions of a script, and which steps they take.
use Rattle.std.specs.Prelude.{◌≡◌, ◌≤◌, ℕ, zero, suc, ◌||◌, Bool, true, List, slice_get, is_some, Option, Some, None}
use Rattle.std.specs.Option.{unwrap_or}
use Rattle.db_txn.specs.Transaction.{Transaction, is_evaluated, vacant}
use Rattle.dl_base.specs.declared.step.Step.{Step}
use Rattle.dl_base.specs.declared.step.Step.TheVariants as steps
use Rattle.meaning_script.specs.Actors.{is_user_mark, session_number}
use Rattle.meaning_system.specs.State.{State}
use Rattle.sys_core.specs.Seated.{HasTxn}
use Rattle.sys_core.specs.Sessions.{AreSeparate}

-- the object of a session, by its number from 1; a session that has none has no transaction
abbrev pub txn_at : List Transaction → ℕ → Transaction
txn_at txns zero = vacant 0
txn_at txns (suc n) = unwrap_or (slice_get txns n) (vacant (suc n))

-- EACH SESSION'S OBJECT SHOWS what the session has
pub record AreShown (s : State) (txns : List Transaction) : Type 0 where
  pub separate : AreSeparate s
  pub shown : (n : ℕ) → HasTxn s (txn_at txns n)
  pub numbered : (n : ℕ) → (txn_at txns n).session ≡ n

-- whether an object has a transaction
abbrev pub has_txn : Transaction → Bool
has_txn t = is_some t.tx

abbrev pub IsSession : ℕ → ℕ → Type 0
IsSession count n = (1 ≤ n) × (n ≤ count)

-- an actor that has its place: a user, and a session that has acted; nobody needs none
abbrev pub is_seated : List (List ℕ) → Option (List ℕ) → Bool
is_seated actors None = true
is_seated actors (Some a) = is_user_mark a || is_some (session_number actors a)

-- a step that is taken for a line: of one of so many sessions, a command on files, a copy or a backup that is stored, a restore, or of the clock
abbrev pub IsStepOf : ℕ → Step → Type 0
IsStepOf count (steps.Begin n) = IsSession count n
IsStepOf count (steps.Statement n stmt) = IsSession count n × (is_evaluated stmt ≡ true)
IsStepOf count (steps.Prepare n) = IsSession count n
IsStepOf count (steps.Decide n) = IsSession count n
IsStepOf count (steps.Finish n) = IsSession count n
IsStepOf count (steps.Rollback n) = IsSession count n
IsStepOf count (steps.File cmd) = Unit {0}
IsStepOf count (steps.Archive n) = Unit {0}
IsStepOf count steps.Backup = Unit {0}
IsStepOf count (steps.Restore t) = Unit {0}
IsStepOf count (steps.Tick n) = Unit {0}
IsStepOf count steps.CrashManager = ⊥
IsStepOf count steps.CrashDatabase = ⊥
IsStepOf count steps.Resolve = ⊥
