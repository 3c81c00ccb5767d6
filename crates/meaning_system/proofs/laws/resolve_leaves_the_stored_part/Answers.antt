use Rattle.meaning_system.proofs.Resolving.{resolve-stays}
use Rattle.meaning_system.proofs.laws.resolve_leaves_the_stored_part.Goals as goal

pub returns : goal.returns
returns c = resolve-stays
