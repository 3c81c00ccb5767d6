use Rattle.std.proofs.Common.{◌∙◌, ap, arith, sym}
use Rattle.db_replay.specs.Changes.{at_version}
use Rattle.db_changes.proofs.Loops.{next_written}
use Rattle.std.proofs.lemmas.Grind.{common_steps}
use Rattle.db_changes.proofs.made.with_version.Goals as goal

pub loop-change-preserved : goal.loop-change-preserved
loop-change-preserved c =
    next_written (at_version c.args.version) c.args.changes c.loop-change.change-items c.loop-change.change-index c.change-item.result c.set_version.new.change
    c.loop-change.invariant (omega arith) c.change-item.is (c.set_version.ensures ∙ ap (at_version c.args.version) (sym c.change-item.is))

pub returns : goal.returns
returns c = grind (arith, common_steps)

pub loop-change-init : goal.loop-change-init
loop-change-init c = grind (arith, common_steps)
