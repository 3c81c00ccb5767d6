-- The steps that the turns of a script take.
use Rattle.std.specs.Prelude.{ℕ, zero, suc, List, [], ◌∷◌, ◌++◌, Option, Some, None}
use Rattle.dl_base.specs.declared.step.Step.{Step}
use Rattle.meaning_run.specs.Running.{Run, next_step, turn}

abbrev pub step_list : Option Step → List Step
step_list None = []
step_list (Some x) = x ∷ []

abbrev pub steps_in : ℕ → Run → List Step
steps_in zero r = []
steps_in (suc n) r = step_list (next_step r) ++ steps_in n (turn r)
