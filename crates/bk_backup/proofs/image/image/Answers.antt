use Rattle.bk_backup.proofs.Images.{stands}
use Rattle.bk_backup.proofs.image.image.Goals as goal

pub returns-clause-stands : goal.returns-clause-stands
returns-clause-stands c = stands (c.args.name.now, c.args.table.now) c.next_number.ensures.numbered
