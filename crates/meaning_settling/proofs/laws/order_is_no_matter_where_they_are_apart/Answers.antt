use Rattle.meaning_settling.proofs.PartLaws.{settled-swap}
use Rattle.meaning_settling.proofs.laws.order_is_no_matter_where_they_are_apart.Goals as goal

pub returns : goal.returns
returns c = settled-swap
