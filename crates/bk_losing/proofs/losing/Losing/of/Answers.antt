use Rattle.std.proofs.Common.{refl}
use Rattle.bk_losing.proofs.LostLaws.{lost-same}
use Rattle.bk_losing.proofs.losing.Losing.of.Goals as goal

pub returns : goal.returns
returns c = lost-same (record { taken = c.in_ok-taken.taken; files = c.args.files }) c.args.files.now.files c.args.takes.now refl c.in_ok-taken.ensures
