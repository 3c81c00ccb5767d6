use Rattle.std.proofs.Common.{◌≡◌, ◌≤◌, ℕ, true, false, [], Some, None, Ok, Err, length, map, refl, sym, ap, ◌∙◌, subst, rules}
use Rattle.std.proofs.lemmas.Result.{IfOk-weaker}
use Rattle.dl_base.specs.Limits.{link_numbers}
use Rattle.meaning_sql.specs.Conditions.{holds_all}
use Rattle.meaning_sql.specs.Faults.{option_list}
use Rattle.meaning_sql.proofs.Turns.{refused_as}
use Rattle.meaning_statements.specs.Changing.{updated_row}
use Rattle.meaning_tables.specs.Tables.{Rows, row_of}
use Rattle.sql_keys.specs.Finding.{IsUnmet}
use Rattle.sql_keys.specs.declared.finding.KeyRows.TheVariants as key_rows
use Rattle.sql_rows.specs.Beside.{RowsAgreeBeside}
use Rattle.sql_rows.specs.Touching.{KeepsOthers}
use Rattle.sql_rows.specs.declared.rows.Updated.{Updated}
use Rattle.sql_rows.proofs.Alone.{alone_passed, alone_set, alone_stopped, alone_stopped_in, set_as, there_is}
use Rattle.sql_rows.proofs.Making.{of_fault}
use Rattle.sql_rows.proofs.Placing.{rows_alone}
use Rattle.sql_rows.proofs.rows.update_one.Goals as goal

-- the row is there
pub returns-in_ok-copy-in-None : goal.returns-in_ok-copy-in-None
returns-in_ok-copy-in-None c =
    let none : row_of c.args.table.now.rows c.args.number ≡ None = search rules in
    there_is (IsUnmet c.args.all.now c.args.filter.now) c.args.table.now.rows c.args.number c.requires.over none

pub returns-in_err-filter_holds-in-Some : goal.returns-in_err-filter_holds-in-Some
returns-in_err-filter_holds-in-Some c =
    let t = c.args.table.now in
    let row = c.in-Some.row.now in
    let e = c.in_err-filter_holds-in-Some.field-0.0 in
    let result = c.from_residual.result in
    let there : row_of t.rows c.args.number ≡ Some row = search rules in
    let is : result ≡ Err e = search rules in
    record {
      put = refused_as _ result e _ is
          (λ other. alone_stopped c.args.all.now c.args.context.now c.args.filter.now t c.args.number row c.numbered.ensures there c.requires.over c.args.places.now (map (λ s. s.1) c.args.sets.now) c.args.first e (c.in_err-filter_holds-in-Some.ensures.all other));
      others = of_fault result e _ is;
      few = of_fault result e _ is;
      touched = of_fault result e _ is;
      beside = of_fault result e _ is;
      told = of_fault result e _ is;
    }

pub returns-in_err-put-in-Some : goal.returns-in_err-put-in-Some
returns-in_err-put-in-Some c =
    let t = c.args.table.now in
    let row = c.in-Some.row.now in
    let e = c.in_err-put-in-Some.field-0.0 in
    let result = c.from_residual-in_err-put-in-Some.result in
    let there : row_of t.rows c.args.number ≡ Some row = search rules in
    let holds : holds_all c.args.all.now c.args.context.now (option_list c.args.filter.now) row ≡ Ok true = search rules in
    let is : result ≡ Err e = search rules in
    record {
      put = refused_as _ result e _ is
          (λ other. alone_stopped_in c.args.all.now c.args.context.now c.args.filter.now t c.args.number row c.numbered.ensures there c.requires.over c.args.places.now (map (λ s. s.1) c.args.sets.now) c.args.first e holds (rw c.columns.ensures at c.in_err-put-in-Some.ensures.put other));
      others = of_fault result e _ is;
      few = of_fault result e _ is;
      touched = of_fault result e _ is;
      beside = of_fault result e _ is;
      told = of_fault result e _ is;
    }

pub returns-in_ok-put-in-Some : goal.returns-in_ok-put-in-Some
returns-in_ok-put-in-Some c =
    let t = c.args.table.now in
    let row = c.in-Some.row.now in
    let put = c.in_ok-put-in-Some.put in
    let rights = map (λ s. s.1) c.args.sets.now in
    let there : row_of t.rows c.args.number ≡ Some row = search rules in
    let holds : holds_all c.args.all.now c.args.context.now (option_list c.args.filter.now) row ≡ Ok true = search rules in
    let becomes : updated_row c.args.all.now c.args.context.now t.columns c.args.places.now rights c.args.first row ≡ Ok (put.values, put.next) = search rules in
    record {
      put = set_as t c.args.number put.next put.values c.set_one.result _ c.set_one.ensures.table c.set_one.ensures.next c.set_one.ensures.memory
          (λ after set. alone_set c.args.all.now c.args.context.now c.args.filter.now t c.args.number row c.numbered.ensures there c.requires.over c.args.places.now rights c.args.first put.next put.values after holds becomes set);
      others = IfOk-weaker c.set_one.result _ _ (λ u set. rows_alone t u.table _ set) c.set_one.ensures.table;
      few = IfOk-weaker c.set_one.result _ _ (λ u are. subst (λ (n : ℕ). n ≤ link_numbers) (sym are.0) c.in_ok-put-in-Some.ensures.few) c.set_one.ensures.next;
      touched = c.set_one.ensures.touched;
      beside = c.set_one.ensures.beside;
      told = c.set_one.ensures.told;
    }

pub returns-then-not-branch : goal.returns-then-not-branch
returns-then-not-branch c =
    let t = c.args.table.now in
    let row = c.in-Some.row.now in
    let there : row_of t.rows c.args.number ≡ Some row = search rules in
    let holds : holds_all c.args.all.now c.args.context.now (option_list c.args.filter.now) row ≡ Ok false = search rules in
    let copied : c.in_ok-copy-in-Some.field-0 ≡ t = search rules in
    let is = c.unmet.ensures ∙ ap (λ (x : Rows). record { table = x; next = c.args.first; met = 0; touched = key_rows.Nothing; numbers = [] }) copied in
    record {
      put = alone_passed c.args.all.now c.args.context.now c.args.filter.now t c.args.number row c.numbered.ensures there c.requires.over c.args.places.now (map (λ s. s.1) c.args.sets.now) c.args.first holds
          ∙ ap (λ (u : Updated). Ok (u.table.rows, (u.next, u.met))) (sym is);
      others = rows_alone t c.unmet.result.table t.rows (ap (λ (u : Updated). u.table) is);
      few = subst (λ (u : Updated). u.next ≤ link_numbers) (sym is) c.requires.numbers;
      touched = subst (λ (u : Updated). KeepsOthers u.touched t.rows u.table.rows) (sym is) refl;
      beside = subst (λ (u : Updated). RowsAgreeBeside u.numbers t.rows u.table.rows) (sym is) (λ n none. refl);
      told = subst (λ (u : Updated). length u.numbers ≡ u.met) (sym is) refl;
    }
