use Rattle.fm_manager.proofs.Spelled.{copies-all, copies-more}
use Rattle.fm_manager.proofs.pieces.are_copies_spelled.Goals as goal

pub loop-copy-init : goal.loop-copy-init
loop-copy-init c all = all

pub loop-copy-preserved : goal.loop-copy-preserved
loop-copy-preserved c =
    copies-more c.as_slice-copy-items.result.now c.args.copies.now c.loop-copy.copy-index c.as_slice-copy-items.ensures c.copy-item.result c.loop-copy-test.true c.copy-item.is c.is_spelled.ensures c.loop-copy.invariant

pub returns : goal.returns
returns c = copies-all c.as_slice-copy-items.result.now c.args.copies.now c.loop-copy.copy-index c.as_slice-copy-items.ensures c.loop-copy-test.false c.loop-copy.invariant
