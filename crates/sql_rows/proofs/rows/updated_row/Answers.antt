use Rattle.std.proofs.Common.{◌≡◌, List, ap, sym, subst, ◌∙◌}
use Rattle.std.specs.Prelude.{map}
use Rattle.dl_base.specs.declared.statement.Expr.{Expr}
use Rattle.meaning_sql.specs.Faults.{Computes}
use Rattle.meaning_statements.specs.Changing.{updated_row}
use Rattle.sql_expr.specs.Binding.{AreIn, Bound}
use Rattle.sql_rows.proofs.Rights.{all_bound, all_in, exprs_bound}
use Rattle.sql_rows.proofs.rows.updated_row.Goals as goal

pub returns-clause-put : goal.returns-clause-put
returns-clause-put c =
    let a = c.args in
    let is : c.in_ok-rights.rights ≡ all_bound a.all.now a.sets.now = c.in_ok-rights.ensures in
    let are = subst (λ (bs : List Bound). AreIn a.all.now bs) (sym is) (all_in a.all.now a.sets.now) in
    let exprs = ap (λ (bs : List Bound). map (λ b. b.expr) bs) is ∙ exprs_bound a.all.now a.sets.now in
    subst (λ (es : List Expr). Computes (λ p. (p.values, p.next)) c.updated_by.result (updated_row a.all.now a.context.now a.columns.now a.places.now es a.k a.row.now)) exprs
    (c.updated_by.ensures.put a.all.now are)
