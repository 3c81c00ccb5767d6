use Rattle.meaning_run.proofs.Few.{few-steps}
use Rattle.meaning_run.proofs.laws.lines_take_few_steps.Goals as goal

pub returns : goal.returns
returns c = few-steps
