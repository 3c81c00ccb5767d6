use Rattle.std.proofs.Common.{◌≡◌, List, ap, sym, subst, ◌∙◌}
use Rattle.std.specs.Prelude.{map}
use Rattle.dl_base.specs.declared.statement.Expr.{Expr}
use Rattle.meaning_sql.specs.Columns.{Columns}
use Rattle.meaning_sql.specs.Faults.{Computes, option_list}
use Rattle.meaning_statements.specs.Changing.{updated_rows}
use Rattle.sql_expr.specs.Binding.{AreIn, Bound, Filter}
use Rattle.sql_rows.proofs.Rights.{all_bound, all_in, exprs_bound}
use Rattle.sql_rows.proofs.rows.update_each.Goals as goal

pub update_met-made-requires-clause-rights : goal.update_met-made-requires-clause-rights
update_met-made-requires-clause-rights c =
    let a = c.args in
    let is : c.in-Ok.rights ≡ all_bound a.all.now a.sets.now = c.in-Ok.ensures in
    subst (λ (columns : Columns). AreIn columns c.in-Ok.rights) (sym (ap (λ (f : Filter). f.columns) c.in_ok-bound.ensures))
    (subst (λ (bs : List Bound). AreIn a.all.now bs) (sym is) (all_in a.all.now a.sets.now))

pub returns-in-Ok-clause-put : goal.returns-in-Ok-clause-put
returns-in-Ok-clause-put c =
    let a = c.args in
    let t = a.table.now in
    let is : c.in-Ok.rights ≡ all_bound a.all.now a.sets.now = c.in-Ok.ensures in
    let exprs = ap (λ (bs : List Bound). map (λ b. b.expr) bs) is ∙ exprs_bound a.all.now a.sets.now in
    subst (λ (es : List Expr). Computes (λ u. (u.table.rows, (u.next, u.met))) c.update_met-made.result (updated_rows a.all.now a.context.now t.columns (option_list a.filter.now) a.places.now es a.first t.rows)) exprs
    (subst (λ (f : Filter). Computes (λ u. (u.table.rows, (u.next, u.met))) c.update_met-made.result (updated_rows f.columns a.context.now t.columns (option_list f.condition) a.places.now (map (λ b. b.expr) c.in-Ok.rights) a.first t.rows))
    c.in_ok-bound.ensures c.update_met-made.ensures.put)
