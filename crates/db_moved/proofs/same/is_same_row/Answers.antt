use Rattle.db_changes.proofs.Deciding.{row-test}
use Rattle.db_moved.proofs.same.is_same_row.Goals as goal

pub returns : goal.returns
returns c number = row-test c.same.result c.args.before.now c.args.row.now number c.same.ensures.0 c.same.ensures.1
