use Rattle.std.proofs.Common.{◌≡◌, List, Result, Err, ℕ, map, rules, subst, sym}
use Rattle.dl_base.specs.declared.sql_fault.SqlFault.{SqlFault}
use Rattle.dl_base.specs.declared.value.Value.{Value}
use Rattle.meaning_sql.specs.Faults.{Computes}
use Rattle.meaning_sql.proofs.Turns.{refused_as}
use Rattle.meaning_statements.specs.Assigning.{stored_row}
use Rattle.meaning_statements.specs.Changing.{with_cells}
use Rattle.sql_rows.proofs.Rights.{updated_from, updated_stops}
use Rattle.sql_rows.proofs.rows.updated_by.Goals as goal

pub returns-in_err-values-clause-put : goal.returns-in_err-values-clause-put
returns-in_err-values-clause-put c = λ all are.
    let a = c.args in
    let e = c.in_err-values.field-0.0 in
    let is : c.from_residual.result ≡ Err e = search rules in
    refused_as _ c.from_residual.result e _ is
    (λ other. updated_stops all a.context.now a.columns.now a.places.now (map (λ b. b.expr) a.rights.now) a.k a.row.now e (c.in_err-values.ensures all are other))

pub returns-clause-put : goal.returns-clause-put
returns-clause-put c = λ all are.
    let a = c.args in
    let vs = c.in_ok-values.values in
    let ws = c.in_ok-values-2.values in
    let cells : with_cells a.places.now (record { values = vs }) 0 a.row.now.values ≡ ws = search rules in
    let here = subst (λ (us : List Value). Computes (λ p. (p.values, p.next)) c.stored_row.result (stored_row a.context.now.tx a.k 0 a.columns.now a.row.now (record { values = us }))) (sym cells) c.stored_row.ensures.put in
    subst (λ (m : Result (List Value × ℕ) SqlFault). Computes (λ p. (p.values, p.next)) c.stored_row.result m)
    (sym (updated_from all a.context.now a.columns.now a.places.now (map (λ b. b.expr) a.rights.now) a.k a.row.now vs (c.in_ok-values.ensures all are))) here
