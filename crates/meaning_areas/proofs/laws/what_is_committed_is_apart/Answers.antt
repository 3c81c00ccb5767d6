use Rattle.meaning_areas.proofs.OwnNumbers.{committed-apart, decided-apart}
use Rattle.meaning_areas.proofs.laws.what_is_committed_is_apart.Goals as goal

pub returns-clause-branches : goal.returns-clause-branches
returns-clause-branches c = committed-apart

pub returns-clause-works : goal.returns-clause-works
returns-clause-works c f k joint t u in_t in_u = decided-apart f k joint t u
