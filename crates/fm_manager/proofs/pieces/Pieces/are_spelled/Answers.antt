use Rattle.fm_manager.proofs.Spelled.{settling-spelled}
use Rattle.fm_manager.specs.Pieces.{changes_in}
use Rattle.fm_manager.proofs.pieces.Pieces.are_spelled.Goals as goal

pub returns : goal.returns
returns c =
    let p = c.self.inside in
    settling-spelled (record { tx = p.tx; copies = p.copies; changes = changes_in p.changes }) c.args.self.now c.self.view_is c.are_copies_spelled.ensures c.is_batch_spelled.ensures.batch c.is_batch_spelled.ensures.done
