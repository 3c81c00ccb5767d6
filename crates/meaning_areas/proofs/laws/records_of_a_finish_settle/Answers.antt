use Rattle.meaning_areas.proofs.FinishList.{finish-joint}
use Rattle.meaning_areas.proofs.laws.records_of_a_finish_settle.Goals as goal

pub returns : goal.returns
returns c = finish-joint
