use Rattle.std.proofs.Common.{refl}
use Rattle.dl_base.specs.Name.{name_test}
use Rattle.fm_effects.proofs.owners.link_owner.Goals as goal

pub of-requires : goal.of-requires
unfolding name_test
of-requires c = refl
