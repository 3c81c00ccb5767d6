use Rattle.meaning_history.proofs.Past.{lists-past}
use Rattle.meaning_history.proofs.laws.what_lists_stand_for_has_a_past.Goals as goal

pub returns : goal.returns
returns c = lists-past
