use Rattle.meaning_system.proofs.Resolving.{settle-again}
use Rattle.meaning_system.proofs.laws.settling_leaves_the_stored_part.Goals as goal

pub returns : goal.returns
returns c = settle-again
