use Rattle.std.proofs.Common.{arith}
use Rattle.dl_pages.proofs.Rows.{insert_behind}
use Rattle.dl_pages.proofs.leaves.halved.Goals as goal

pub returns : goal.returns
returns g c = rw (c.in_ok-copy_of-2.ensures, c.in_ok-with_item-2.ensures, c.split_at.ensures.front, c.split_at.ensures.back) (insert_behind 8 _ c.args.index c.args.row.now c.args.item (omega (arith, c.if-index-le-HALF.false)) c.requires.full)
