-- Whose step it is, and whose transaction.
use Rattle.std.specs.Prelude.{◌≡◌, ◌≢◌, ◌≤◌, ℕ, true, is_some, Some}
use Rattle.std.specs.FinMap as maps
use Rattle.dl_base.specs.declared.step.Step.{Step}
use Rattle.dl_base.specs.declared.step.Step.TheVariants as steps
use Rattle.meaning_system.specs.State.{State, number_of}

-- not a step of this session, and none that ends the transactions of sessions
abbrev pub IsOther : Step → ℕ → Type 0
IsOther (steps.Begin n) session = n ≢ session
IsOther (steps.Statement n stmt) session = n ≢ session
IsOther (steps.Prepare n) session = n ≢ session
IsOther (steps.Decide n) session = n ≢ session
IsOther (steps.Finish n) session = n ≢ session
IsOther (steps.Rollback n) session = n ≢ session
IsOther (steps.File cmd) session = Unit {0}
IsOther (steps.Archive n) session = Unit {0}
IsOther steps.Backup session = Unit {0}
IsOther (steps.Restore t) session = Unit {0}
IsOther (steps.Tick n) session = Unit {0}
IsOther steps.CrashManager session = Unit {0}
IsOther steps.CrashDatabase session = ⊥
IsOther steps.Resolve session = Unit {0}

-- EACH SESSION HAS A TRANSACTION OF ITS OWN: no two have one number, none has a number that was not drawn, and none has one that has ended
pub record AreSeparate (s : State) : Type 0 where
  pub one : (a b tx : ℕ) → maps.get s.sessions a ≡ Some tx → maps.get s.sessions b ≡ Some tx → a ≡ b
  pub drawn : (session tx : ℕ) → maps.get s.sessions session ≡ Some tx → tx ≤ number_of s
  pub there : (session tx : ℕ) → maps.get s.sessions session ≡ Some tx → is_some (maps.get s.txs tx) ≡ true
