-- WHAT THE RECORDS OF A STEP LEAD TO: lists that are sound with the state behind it.
use Rattle.std.proofs.Common.{◌≡◌, ℕ, ◌+◌, ◌^◌, ◌<◌, true, Some, is_some, sym, ◌∙◌, ap, subst}
use Rattle.dl_base.specs.declared.step.Step.{Step}
use Rattle.dl_base.specs.declared.step.Step.TheVariants as steps
use Rattle.dl_base.specs.declared.step.Target.{Target}
use Rattle.meaning_areas.proofs.Tables.{some_same}
use Rattle.meaning_areas.specs.Lists.{Folds, folds_on}
use Rattle.meaning_history.specs.Sound.{AreSound}
use Rattle.meaning_system.specs.Following.{AreRestored}
use Rattle.meaning_system.specs.Machine.{step}
use Rattle.meaning_system.specs.State.{State}
use Rattle.meaning_system.specs.Writes.{writes}

-- the law of each step
abbrev pub EachLeads : Type 0
EachLeads =
    (first : ℕ) (f : Folds) (s : State) (x : Step) → AreSound first f s → s.drawn + 1 < 2 ^ 32 → ((t : Target) → x ≡ steps.Restore t → AreRestored s t)
    → (later : Folds) × (folds_on (Some f) (writes s x) ≡ Some later) × AreSound first later (step s x).1

-- a step that is no restore
abbrev pub IsNoRestore : Step → Type 0
IsNoRestore x = (t : Target) → x ≡ steps.Restore t → ⊥

module _ (law : EachLeads) (first : ℕ) (f : Folds) (s : State) (x : Step) (sound : AreSound first f s) (few : s.drawn + 1 < 2 ^ 32) (no : IsNoRestore x) where
  leads : (later : Folds) × (folds_on (Some f) (writes s x) ≡ Some later) × AreSound first later (step s x).1
  leads = law first f s x sound few (λ t e. absurd (no t e))

  -- the lists take them
  pub behind-taken : is_some (folds_on (Some f) (writes s x)) ≡ true
  behind-taken = ap is_some leads.1

  -- and what they lead to is sound with the state behind the step
  pub behind-sound : (g : Folds) (later : State) → folds_on (Some f) (writes s x) ≡ Some g → (step s x).1 ≡ later → AreSound first g later
  behind-sound g later leads_to is =
      subst (λ (t : State). AreSound first g t) is
      (subst (λ (h : Folds). AreSound first h (step s x).1) (some_same leads.0 g (sym leads.1 ∙ leads_to)) leads.2)

pub no-begin : (session : ℕ) → IsNoRestore (steps.Begin session)
no-begin session t e = cc

pub no-prepare : (session : ℕ) → IsNoRestore (steps.Prepare session)
no-prepare session t e = cc

pub no-decide : (session : ℕ) → IsNoRestore (steps.Decide session)
no-decide session t e = cc

pub no-finish : (session : ℕ) → IsNoRestore (steps.Finish session)
no-finish session t e = cc

pub no-rollback : (session : ℕ) → IsNoRestore (steps.Rollback session)
no-rollback session t e = cc
