-- Files are under control before and after each step of a run.
use Rattle.std.proofs.Common.{◌≡◌, ℕ, ◌+◌, ◌^◌, ◌<◌, List, [], ◌∷◌, Some}
use Rattle.dl_base.specs.declared.step.Step.{Step}
use Rattle.dl_base.specs.declared.step.Step.TheVariants as steps
use Rattle.dl_base.specs.declared.step.Target.{Target}
use Rattle.fm_control.proofs.Behind.{theirs-kept}
use Rattle.fm_control.proofs.Controlled.{controlled}
use Rattle.fm_control.specs.Control.{AreControlled, HaveTheirs}
use Rattle.meaning_areas.specs.Lists.{Folds, folds_on}
use Rattle.meaning_history.specs.Sound.{AreSound}
use Rattle.meaning_serial.specs.Serial.{MayDraw}
use Rattle.meaning_system.specs.Following.{AreRestored}
use Rattle.meaning_system.specs.Machine.{step}
use Rattle.meaning_system.specs.State.{State}
use Rattle.meaning_system.specs.Writes.{writes}

-- each step leads from lists and a state that are sound to such again
abbrev pub LeadsOn : Type 0
LeadsOn = (first : ℕ) (f : Folds) (s : State) (x : Step) → AreSound first f s → s.drawn + 1 < 2 ^ 32 → ((t : Target) → x ≡ steps.Restore t → AreRestored s t)
    → (later : Folds) × (folds_on (Some f) (writes s x) ≡ Some later) × AreSound first later (step s x).1

-- and what a restore owes holds of these
abbrev pub RestoresGoOn : Type 0
RestoresGoOn = (first : ℕ) (f : Folds) (s : State) → AreSound first f s → (t : Target) → AreRestored s t

module _ (leads_on : LeadsOn) (go_on : RestoresGoOn) (first : ℕ) where
  pub run-controlled : (xs : List Step) (f : Folds) (s : State) → AreSound first f s → HaveTheirs s → MayDraw s xs → AreControlled s xs
  run-controlled [] f s sound theirs may = controlled first f s sound theirs
  run-controlled (x ∷ xs) f s sound theirs may =
      let on = leads_on first f s x sound may.0 (λ t is. go_on first f s sound t) in
      (controlled first f s sound theirs, run-controlled xs on.0 (step s x).1 on.2 (theirs-kept first f s x sound theirs) may.1)
