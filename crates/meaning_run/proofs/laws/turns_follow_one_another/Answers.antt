use Rattle.meaning_run.proofs.Turns.{after-after, after-next, written-after}
use Rattle.meaning_run.proofs.laws.turns_follow_one_another.Goals as goal

pub returns-clause-after : goal.returns-clause-after
returns-clause-after c = after-after

pub returns-clause-written : goal.returns-clause-written
returns-clause-written c = written-after

pub returns-clause-next : goal.returns-clause-next
returns-clause-next c = after-next
