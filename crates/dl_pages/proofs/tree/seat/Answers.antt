use Rattle.std.proofs.Common.{arith}
use Rattle.dl_pages.proofs.Taking.{len_at}
use Rattle.dl_pages.proofs.tree.seat.Goals as goal

pub returns-then-left-len : goal.returns-then-left-len
returns-then-left-len g c = (c.loop-i-test.true, c.loop-i.invariant, omega (arith, c.loop-i.invariant, c.if-left-len.true, c.len-len.ensures, len_at c.loop-i.i c.args.parts.now c.index-parts-i.result c.index-parts-i.result c.index-parts-i.is c.loop-i-test.true))
