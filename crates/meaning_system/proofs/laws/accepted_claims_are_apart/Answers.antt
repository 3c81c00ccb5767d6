use Rattle.meaning_system.proofs.Claiming.{claim-apart}
use Rattle.meaning_system.proofs.laws.accepted_claims_are_apart.Goals as goal

pub returns : goal.returns
returns c = claim-apart
