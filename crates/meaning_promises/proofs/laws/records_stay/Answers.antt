use Rattle.dl_base.specs.declared.step.Step.TheVariants as steps
use Rattle.meaning_run.specs.Running.{after}
use Rattle.meaning_promises.specs.Promises.{decision_record, vote_record}
use Rattle.meaning_promises.proofs.Promised.{among, decision-all, stay, vote-linked}
use Rattle.meaning_promises.proofs.laws.records_stay.Goals as goal

pub returns-clause-turns : goal.returns-clause-turns
returns-clause-turns c = stay

pub returns-clause-votes : goal.returns-clause-votes
returns-clause-votes c k n session tx t r lt next vote has = among k n r lt (steps.Prepare session) next (vote_record tx t) (vote-linked (after k r).state session tx t vote has)

pub returns-clause-decisions : goal.returns-clause-decisions
returns-clause-decisions c k n session tx number t r lt next decision = among k n r lt (steps.Decide session) next (decision_record tx t number) (decision-all (after k r).state session tx number t decision)
