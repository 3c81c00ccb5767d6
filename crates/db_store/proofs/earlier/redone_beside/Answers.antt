use Rattle.db_store.proofs.Versions.{covers_redone}
use Rattle.db_store.proofs.earlier.redone_beside.Goals as goal

pub returns-in-Ok-clause-covers : goal.returns-in-Ok-clause-covers
returns-in-Ok-clause-covers c = covers_redone c.args.number c.in-Ok.touched c.args.before.now c.in_ok-tables.tables c.args.changes.now c.in-Ok.ensures c.in_ok-tables.ensures
