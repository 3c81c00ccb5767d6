use Rattle.std.proofs.Common.{◌≡◌, ℕ, List, length, ap, sym, ◌∙◌, rules, subst, arith}
use Rattle.meaning_tables.specs.Tables.{Rows}
use Rattle.sql_change.specs.Touched.{numbers_from}
use Rattle.sql_change.specs.Parts.{grown_table, grown}
use Rattle.sql_rows.specs.Beside.{RowsAgreeBeside}
use Rattle.sql_rows.specs.NewRows.{counted}
use Rattle.sql_change.proofs.Touched.{grown_beside, numbers_length}
use Rattle.std.proofs.lemmas.Grind.{common_steps}
use Rattle.sql_change.proofs.inserting.grown.Goals as goal

pub returns-clause-beside : goal.returns-clause-beside
returns-clause-beside c =
    let t = c.args.table.now in
    let rows = c.args.made.rows in
    let touched : c.in_ok-touched.touched ≡ numbers_from t.next (length rows) = search rules in
    let after : c.in_ok-after.after ≡ grown_table t (counted t.next rows) (length rows) = search rules in
    subst (λ (ns : List ℕ). RowsAgreeBeside ns t.rows c.in_ok-after.after.rows) (sym touched)
    (subst (λ (x : Rows). RowsAgreeBeside (numbers_from t.next (length rows)) t.rows x.rows) (sym after) (grown_beside t.rows t.next rows))

pub returns-clause-told : goal.returns-clause-told
returns-clause-told c =
    let t = c.args.table.now in
    let rows = c.args.made.rows in
    let touched : c.in_ok-touched.touched ≡ numbers_from t.next (length rows) = search rules in
    let count : c.len-count.result ≡ length rows = search rules in
    ap (λ (ns : List ℕ). length ns) touched ∙ numbers_length t.next (length rows) ∙ sym count

pub with_new_rows-requires-clause-few : goal.with_new_rows-requires-clause-few
unfolding grown
with_new_rows-requires-clause-few c = grind (arith, common_steps)

pub returns-clause-made : goal.returns-clause-made
unfolding grown
returns-clause-made c = grind (arith, common_steps)

pub with_new_rows-requires-clause-small : goal.with_new_rows-requires-clause-small
unfolding grown
with_new_rows-requires-clause-small c = grind (arith, common_steps)

pub returns-in_err-after-clause-made : goal.returns-in_err-after-clause-made
unfolding grown
returns-in_err-after-clause-made c = grind (arith, common_steps)

pub numbers_from-requires : goal.numbers_from-requires
unfolding grown
numbers_from-requires c = grind (arith, common_steps)

pub with_new_rows-requires-clause-wide : goal.with_new_rows-requires-clause-wide
unfolding grown
with_new_rows-requires-clause-wide c = grind (arith, common_steps)
