use Rattle.meaning_areas.proofs.Votes.{prepared-accepted}
use Rattle.meaning_areas.proofs.laws.prepared_of_a_claim_is_taken.Goals as goal

pub returns : goal.returns
returns c f k tx w takes joint is was = prepared-accepted f k joint tx w is was takes
