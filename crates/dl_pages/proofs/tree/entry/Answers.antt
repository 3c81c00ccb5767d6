use Rattle.std.proofs.Common.{true, false, arith}
use Rattle.dl_pages.proofs.Turns.{begins_at}
use Rattle.dl_pages.proofs.tree.entry.Goals as goal

pub returns-then-not-begins_passing-clause-failing : goal.returns-then-not-begins_passing-clause-failing
returns-then-not-begins_passing-clause-failing g c = begins_at (g.F.Predicate.test c.args.predicate.now) false c.begins_passing.result c.loop-next.next _ c.args.parts.now c.index-parts-next.result c.index-parts-next.is (omega arith) c.requires.filled c.begins_passing.ensures (grind arith) (omega arith)

pub loop-next-preserved : goal.loop-next-preserved
loop-next-preserved g c _ = begins_at (g.F.Predicate.test c.args.predicate.now) true c.begins_passing.result c.loop-next.next _ c.args.parts.now c.index-parts-next.result c.index-parts-next.is (omega arith) c.requires.filled c.begins_passing.ensures (grind arith) (omega arith)
