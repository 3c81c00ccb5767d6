use Rattle.fm_effects.proofs.ReadLaws.{none-put}
use Rattle.fm_effects.proofs.laws.a_batch_without_fill_puts_no_file.Goals as goal

pub returns : goal.returns
returns c = none-put
