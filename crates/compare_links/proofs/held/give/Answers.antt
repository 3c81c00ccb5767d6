use Rattle.std.proofs.Common.{None}
use Rattle.compare_every.proofs.Maps.{changed}
use Rattle.compare_links.proofs.held.give.Goals as goal

pub returns : goal.returns
returns c = changed c.args.held.now.entries c.remove.new.self.entries c.args.path.now None c.remove.ensures.updates.0
