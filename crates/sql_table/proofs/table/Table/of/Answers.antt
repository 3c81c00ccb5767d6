use Rattle.sql_table.proofs.Kept.{kept_new}
use Rattle.sql_table.proofs.table.Table.of.Goals as goal

pub invariant_of-result : goal.invariant_of-result
invariant_of-result c = kept_new c.args.columns c.empty.result c.empty-2.result c.empty-3.result c.empty.ensures c.empty-2.ensures c.empty-3.ensures
