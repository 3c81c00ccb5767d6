use Rattle.meaning_settling.proofs.SettledLaws.{settled-part}
use Rattle.meaning_settling.proofs.laws.open_ones_after_a_part_of_one.Goals as goal

pub returns : goal.returns
returns c = settled-part
