use Rattle.meaning_settling.proofs.PartLaws.{part-settled}
use Rattle.meaning_settling.proofs.laws.a_part_and_then_all_is_all.Goals as goal

pub returns : goal.returns
returns c = part-settled
