-- A step draws one number at most, so short runs have one left to draw before each step.
use Rattle.std.proofs.Common.{ℕ, suc, ◌+◌, ◌^◌, ◌<◌, ◌≤◌, List, [], ◌∷◌, length, Option, Some, None, refl, subst, sym, arith}
use Rattle.dl_base.specs.declared.step.Settings.{Settings}
use Rattle.dl_base.specs.declared.step.Step.{Step}
use Rattle.dl_base.specs.declared.step.Step.TheVariants as steps
use Rattle.meaning_areas.specs.Stands.{Stored}
use Rattle.meaning_system.specs.Machine.{begin, start, step}
use Rattle.meaning_system.specs.State.{State, Txn, txn_of}
use Rattle.meaning_system.proofs.Kept.{at-archive, at-backup, at-decide, at-file, at-finish, at-prepare, at-restore, at-rollback, at-statement, resolve-same, with-session}
use Rattle.meaning_serial.specs.Serial.{MayDraw}

within : (n : ℕ) → n ≤ n + 1
within n = omega arith

one-more : (n : ℕ) → n + 1 ≤ n + 1
one-more n = omega arith

none-left : (n : ℕ) → 0 ≤ n + 1
none-left n = omega arith

module _ (s : State) where
  -- no more than one number more
  abbrev Drew : State → Type 0
  Drew later = later.drawn ≤ s.drawn + 1

  begins : (session : ℕ) (o : Option (ℕ × Txn)) → Drew (begin s session o).1
  begins session (Some e) = within s.drawn
  begins session None = one-more s.drawn

drew : (s : State) (x : Step) → (step s x).1.drawn ≤ s.drawn + 1
unfolding step
drew s (steps.Begin session) = begins s session (txn_of s session)
drew s (steps.Statement session stmt) = with-session (Drew s) s session (steps.Statement session stmt) (within s.drawn) (λ tx t at of. at-statement (Drew s) s (within s.drawn) tx t session stmt t.phase (within s.drawn))
drew s (steps.Prepare session) = with-session (Drew s) s session (steps.Prepare session) (within s.drawn) (λ tx t at of. at-prepare (Drew s) s (within s.drawn) tx t session t.phase (within s.drawn))
drew s (steps.Decide session) = with-session (Drew s) s session (steps.Decide session) (within s.drawn) (λ tx t at of. at-decide (Drew s) s (within s.drawn) tx t session t.phase (within s.drawn) (within s.drawn))
drew s (steps.Finish session) = with-session (Drew s) s session (steps.Finish session) (within s.drawn) (λ tx t at of. at-finish (Drew s) s (within s.drawn) tx t session t.phase (within s.drawn))
drew s (steps.Rollback session) = with-session (Drew s) s session (steps.Rollback session) (within s.drawn) (λ tx t at of. at-rollback (Drew s) s (within s.drawn) tx t session t.phase (within s.drawn))
drew s (steps.File cmd) = at-file (Drew s) s (within s.drawn) cmd (λ files. within s.drawn)
drew s (steps.Archive n) = at-archive (Drew s) s (within s.drawn) n (λ copies. within s.drawn)
drew s steps.Backup = at-backup (Drew s) s (within s.drawn) (λ backups. within s.drawn)
drew s (steps.Restore target) = at-restore (Drew s) s (within s.drawn) target (λ later. one-more s.drawn)
drew s (steps.Tick n) = within s.drawn
drew s steps.CrashManager = within s.drawn
drew s steps.CrashDatabase = none-left s.drawn
drew s steps.Resolve = subst (λ (n : ℕ). n ≤ s.drawn + 1) (sym (resolve-same (λ (x : State). x.drawn) (λ x tx. refl) (λ x t. refl) s)) (within s.drawn)

first : (d l m : ℕ) → d + suc l < m → d + 1 < m
first d l m lt = omega (arith, lt)

rest : (d e l m : ℕ) → e ≤ d + 1 → d + suc l < m → e + l < m
rest d e l m le lt = omega (arith, le, lt)

may : (xs : List Step) (s : State) → s.drawn + length xs < 2 ^ 32 → MayDraw s xs
may [] s lt = tt
may (x ∷ xs) s lt = (first s.drawn (length xs) (2 ^ 32) lt, may xs (step s x).1 (rest s.drawn (step s x).1.drawn (length xs) (2 ^ 32) (drew s x) lt))

-- from the begin of a run
pub few-may : (given : Settings) (x : Stored) (xs : List Step) → length xs < 2 ^ 32 → MayDraw (start given x) xs
few-may given x xs lt = may xs (start given x) (zero-plus (length xs) (2 ^ 32) lt)
  where
    zero-plus : (l m : ℕ) → l < m → 0 + l < m
    zero-plus l m le = omega (arith, le)
