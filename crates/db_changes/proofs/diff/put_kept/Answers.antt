use Rattle.std.proofs.Common.{◌+◌, drop, arith}
use Rattle.db_changes.proofs.Fates.{found-at}
use Rattle.db_changes.proofs.Leading.{distinct-named}
use Rattle.std.proofs.lemmas.Grind.{common_steps}
use Rattle.db_changes.proofs.diff.put_kept.Goals as goal

pub put_if_kept-requires-clause-stands : goal.put_if_kept-requires-clause-stands
put_if_kept-requires-clause-stands c =
    found-at c.args.base.now c.loop-i.i (c.in-Some.name.now, c.in-Some.table.now) (drop (c.loop-i.i + 1) c.args.base.now) (distinct-named c.args.base.now c.len-i-end.ensures.distinct) c.in-Some.ensures.left

pub returns-in-None-clause-changes : goal.returns-in-None-clause-changes
returns-in-None-clause-changes c = grind (arith, common_steps)

pub returns-in-None-clause-handles : goal.returns-in-None-clause-handles
returns-in-None-clause-handles c = grind (arith, common_steps)

pub loop-i-preserved : goal.loop-i-preserved
loop-i-preserved c = grind (arith, common_steps)
