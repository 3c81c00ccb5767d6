use Rattle.db_txn.proofs.Working.{begun-work}
use Rattle.db_txn.proofs.txn.fresh.Goals as goal

pub invariant_of-result : goal.invariant_of-result
invariant_of-result c =
    let both = begun-work c.args.tables.now c.in_ok-base.base c.in-Ok.copy c.begun.result c.in_ok-base.ensures c.in-Ok.ensures c.begun.ensures c.requires.rows c.requires.committed in
    (both.0, both.1, tt)
