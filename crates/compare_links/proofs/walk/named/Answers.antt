use Rattle.compare_links.proofs.Passing.{named_none}
use Rattle.compare_links.proofs.walk.named.Goals as goal

pub unreachable-requires : goal.unreachable-requires
unreachable-requires c = named_none c.args.store.now.rows.commits c.args.index c.in-None.ensures c.requires.within
