use Rattle.std.proofs.Common.{List, Result, ap, subst, ◌∙◌}
use Rattle.dl_base.specs.declared.sql_fault.SqlFault.{SqlFault}
use Rattle.dl_base.specs.declared.value.Value.{Value}
use Rattle.meaning_sql.specs.Faults.{Computes, try_map}
use Rattle.sql_expr.specs.Binding.{Bound, bound_value}
use Rattle.sql_rows.proofs.Rights.{values_in}
use Rattle.sql_rows.proofs.rows.set_values.Goals as goal

pub returns : goal.returns
returns c = λ all are.
    let a = c.args in
    subst (λ (m : Result (List Value) SqlFault). Computes (λ v. v) c.bound_values.result m)
    (ap (λ (bs : List Bound). try_map (bound_value a.context.now a.row.now) bs) c.as_slice.ensures ∙ values_in all a.context.now a.row.now a.rights.now are) c.bound_values.ensures
