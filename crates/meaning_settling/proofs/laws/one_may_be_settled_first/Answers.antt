use Rattle.meaning_settling.proofs.SettledLaws.{settled-front}
use Rattle.meaning_settling.proofs.laws.one_may_be_settled_first.Goals as goal

pub returns : goal.returns
returns c = settled-front
