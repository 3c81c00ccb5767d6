use Rattle.fm_manager.proofs.Spelled.{done-spelled}
use Rattle.fm_manager.proofs.pieces.is_batch_spelled.Goals as goal

pub returns-in-Some-clause-done : goal.returns-in-Some-clause-done
returns-in-Some-clause-done c = done-spelled c.args.tx c.ranges.tx.fits

pub returns-in_default-clause-done : goal.returns-in_default-clause-done
returns-in_default-clause-done c = done-spelled c.args.tx c.ranges.tx.fits
