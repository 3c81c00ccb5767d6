use Rattle.db_moved.proofs.Comparing.{differs_here, same_here}
use Rattle.db_moved.proofs.same.are_same.Goals as goal

pub returns-then-not-are_same_at : goal.returns-then-not-are_same_at
returns-then-not-are_same_at c = differs_here c.args.base.now c.args.copy.now c.loop-i.i c.are_same_at.result c.are_same_at.ensures c.if-not-are_same_at.true c.loop-i.invariant

pub loop-i-preserved : goal.loop-i-preserved
loop-i-preserved c = same_here c.args.base.now c.args.copy.now c.loop-i.i c.are_same_at.result c.are_same_at.ensures c.if-not-are_same_at.false c.loop-i.invariant
