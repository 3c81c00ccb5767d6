-- Only a Tick moves the clock, and no step changes the settings.
use Rattle.std.proofs.Common.{◌≡◌, ℕ, ◌+◌, ◌-◌, ◌^◌, ◌<◌, ◌≤◌, min, false, Option, Some, None, refl, sym, subst, arith}
use Rattle.dl_base.specs.declared.step.Step.{Step}
use Rattle.dl_base.specs.declared.step.Step.TheVariants as steps
use Rattle.meaning_settling.proofs.KeyedLaws.{false_true}
use Rattle.meaning_system.specs.Machine.{begin, step}
use Rattle.meaning_system.specs.State.{State, Txn, txn_of}
use Rattle.meaning_system.proofs.Kept.{at-archive, at-backup, at-decide, at-file, at-finish, at-prepare, at-restore, at-rollback, at-statement, resolve-same, with-session}
use Rattle.meaning_promises.specs.Stops.{is_tick}

module _ (s : State) where
  abbrev HasSameClock : State → Type 0
  HasSameClock later = (later.moment ≡ s.moment) × (later.settings ≡ s.settings)

  same : HasSameClock s
  same = (refl, refl)

  on-begin : (session : ℕ) (o : Option (ℕ × Txn)) → HasSameClock (begin s session o).1
  on-begin session (Some e) = same
  on-begin session None = same

-- EACH OTHER STEP
still : (s : State) (x : Step) → is_tick x ≡ false → HasSameClock s (step s x).1
unfolding step
still s (steps.Begin session) other = on-begin s session (txn_of s session)
still s (steps.Statement session stmt) other = with-session (HasSameClock s) s session (steps.Statement session stmt) (same s) (λ tx t at of. at-statement (HasSameClock s) s (same s) tx t session stmt t.phase (same s))
still s (steps.Prepare session) other = with-session (HasSameClock s) s session (steps.Prepare session) (same s) (λ tx t at of. at-prepare (HasSameClock s) s (same s) tx t session t.phase (same s))
still s (steps.Decide session) other = with-session (HasSameClock s) s session (steps.Decide session) (same s) (λ tx t at of. at-decide (HasSameClock s) s (same s) tx t session t.phase (same s) (same s))
still s (steps.Finish session) other = with-session (HasSameClock s) s session (steps.Finish session) (same s) (λ tx t at of. at-finish (HasSameClock s) s (same s) tx t session t.phase (same s))
still s (steps.Rollback session) other = with-session (HasSameClock s) s session (steps.Rollback session) (same s) (λ tx t at of. at-rollback (HasSameClock s) s (same s) tx t session t.phase (same s))
still s (steps.File cmd) other = at-file (HasSameClock s) s (same s) cmd (λ files. same s)
still s (steps.Archive n) other = at-archive (HasSameClock s) s (same s) n (λ copies. same s)
still s steps.Backup other = at-backup (HasSameClock s) s (same s) (λ backups. same s)
still s (steps.Restore target) other = at-restore (HasSameClock s) s (same s) target (λ later. same s)
still s (steps.Tick n) other = absurd (false_true (sym other))
still s steps.CrashManager other = same s
still s steps.CrashDatabase other = same s
still s steps.Resolve other = (resolve-same (λ (x : State). x.moment) (λ x tx. refl) (λ x t. refl) s, resolve-same (λ (x : State). x.settings) (λ x tx. refl) (λ x t. refl) s)

pub clock-stays : (s : State) (x : Step) → is_tick x ≡ false → (step s x).1.moment ≡ s.moment
clock-stays s x other = (still s x other).0

pub settings-stay : (s : State) (x : Step) → (step s x).1.settings ≡ s.settings
unfolding step
settings-stay s (steps.Begin session) = (still s (steps.Begin session) refl).1
settings-stay s (steps.Statement session stmt) = (still s (steps.Statement session stmt) refl).1
settings-stay s (steps.Prepare session) = (still s (steps.Prepare session) refl).1
settings-stay s (steps.Decide session) = (still s (steps.Decide session) refl).1
settings-stay s (steps.Finish session) = (still s (steps.Finish session) refl).1
settings-stay s (steps.Rollback session) = (still s (steps.Rollback session) refl).1
settings-stay s (steps.File cmd) = (still s (steps.File cmd) refl).1
settings-stay s (steps.Archive n) = (still s (steps.Archive n) refl).1
settings-stay s steps.Backup = (still s steps.Backup refl).1
settings-stay s (steps.Restore target) = (still s (steps.Restore target) refl).1
settings-stay s (steps.Tick n) = refl
settings-stay s steps.CrashManager = refl
settings-stay s steps.CrashDatabase = refl
settings-stay s steps.Resolve = (still s steps.Resolve refl).1

-- A TICK

abbrev IsOnward : ℕ → ℕ → Type 0
IsOnward before behind = (before ≤ behind) × (behind < 2 ^ 64)

ticked : (m n : ℕ) → m < 2 ^ 64 → IsOnward m (min (m + n) (2 ^ 64 - 1))
ticked m n small = (omega (arith, small), omega (arith, small))

le_self : (n : ℕ) → n ≤ n
le_self n = omega arith

stays : (s : State) (x : Step) → is_tick x ≡ false → s.moment < 2 ^ 64 → IsOnward s.moment (step s x).1.moment
stays s x other small = subst (IsOnward s.moment) (sym (clock-stays s x other)) (le_self s.moment, small)

pub onward : (s : State) (x : Step) → s.moment < 2 ^ 64 → IsOnward s.moment (step s x).1.moment
unfolding step
onward s (steps.Begin session) small = stays s (steps.Begin session) refl small
onward s (steps.Statement session stmt) small = stays s (steps.Statement session stmt) refl small
onward s (steps.Prepare session) small = stays s (steps.Prepare session) refl small
onward s (steps.Decide session) small = stays s (steps.Decide session) refl small
onward s (steps.Finish session) small = stays s (steps.Finish session) refl small
onward s (steps.Rollback session) small = stays s (steps.Rollback session) refl small
onward s (steps.File cmd) small = stays s (steps.File cmd) refl small
onward s (steps.Archive n) small = stays s (steps.Archive n) refl small
onward s steps.Backup small = stays s steps.Backup refl small
onward s (steps.Restore target) small = stays s (steps.Restore target) refl small
onward s (steps.Tick n) small = ticked s.moment n small
onward s steps.CrashManager small = stays s steps.CrashManager refl small
onward s steps.CrashDatabase small = stays s steps.CrashDatabase refl small
onward s steps.Resolve small = stays s steps.Resolve refl small
