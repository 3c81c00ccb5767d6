use Rattle.db_moved.proofs.Moving.{stay-given, stay-taken}
use Rattle.db_moved.proofs.moved.moved_links.Goals as goal

pub lacking-requires : goal.lacking-requires
lacking-requires c = stay-given c.args.touched.now c.args.base.now c.args.copy.now c.requires

pub lacking-requires-2 : goal.lacking-requires-2
lacking-requires-2 c = stay-taken c.args.touched.now c.args.base.now c.args.copy.now c.requires
