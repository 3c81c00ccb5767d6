use Rattle.std.proofs.Common.{◌+◌, drop}
use Rattle.db_changes.proofs.Fates.{found-at}
use Rattle.db_changes.proofs.Leading.{distinct-named}
use Rattle.db_moved.proofs.moved.lacking.Goals as goal

pub put_lacking-requires : goal.put_lacking-requires
put_lacking-requires c =
    c.requires.rows c.in-Some.name.now c.in-Some.table.now
    (found-at c.args.tables.now c.loop-i.i (c.in-Some.name.now, c.in-Some.table.now) (drop (c.loop-i.i + 1) c.args.tables.now) (distinct-named c.args.tables.now c.len-i-end.ensures.distinct) c.in-Some.ensures.left)
