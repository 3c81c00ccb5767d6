use Rattle.meaning_sql.specs.Faults.{option_list}
use Rattle.sql_change.proofs.Leaving.{left_is}
use Rattle.sql_change.proofs.updating.left_over.Goals as goal

pub returns-clause-made : goal.returns-clause-made
returns-clause-made c = λ k.
    let a = c.args in
    left_is a.columns.now a.table.now a.filter.now a.context.now k (option_list c.in_ok-filter_type.field-0) c.delete_rows.result c.in_ok-filter_type.ensures.of_type c.delete_rows.ensures.rows c.delete_rows.ensures.others c.delete_rows.ensures.told
