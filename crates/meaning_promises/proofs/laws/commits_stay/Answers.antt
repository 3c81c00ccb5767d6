use Rattle.dl_base.specs.declared.step.Step.TheVariants as steps
use Rattle.meaning_run.specs.Running.{after}
use Rattle.meaning_system.specs.Machine.{drawing}
use Rattle.meaning_system.specs.State.{number_of}
use Rattle.meaning_promises.proofs.Staying.{added, decide-told, restore-told, tables-stay, told-stays}
use Rattle.meaning_promises.proofs.laws.commits_stay.Goals as goal

pub returns-clause-more : goal.returns-clause-more
returns-clause-more c = added

pub returns-clause-tables : goal.returns-clause-tables
returns-clause-tables c = tables-stay

pub returns-clause-decided : goal.returns-clause-decided
returns-clause-decided c k n session number r lt next answer =
    let told = decide-told (after k r).state session number answer in
    told-stays k n number r lt (steps.Decide session) next told.0 told.1

pub returns-clause-restored : goal.returns-clause-restored
returns-clause-restored c k n number t lost r lt next answer =
    told-stays k n number r lt (steps.Restore t) next (number_of (drawing (after k r).state)) (restore-told (after k r).state t number lost answer)
