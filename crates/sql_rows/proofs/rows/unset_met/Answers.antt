use Rattle.std.proofs.Common.{◌≡◌, ◌+◌, ◌++◌, ◌∷◌, [], ℕ, List, true, false, drop, length, Ok, ap, ◌∙◌, arith, rules, subst, sym}
use Rattle.meaning_sql.specs.Conditions.{holds_all}
use Rattle.meaning_sql.specs.Faults.{option_list}
use Rattle.meaning_tables.specs.Tables.{Rows, without_row}
use Rattle.sql_rows.specs.Beside.{RowsAgreeBeside}
use Rattle.sql_rows.proofs.Beside.{one_gone, push_length}
use Rattle.sql_rows.proofs.Leaving.{gone, one_fewer_so, passed, rise_so}
use Rattle.sql_rows.proofs.Placing.{still_of}
use Rattle.sql_rows.proofs.rows.unset_met.Goals as goal

pub loop-i-preserved-then-not-goes : goal.loop-i-preserved-then-not-goes
loop-i-preserved-then-not-goes c =
    let t = c.args.table.now in
    let i = c.loop-i.i in
    let number = c.in-Some.number in
    let row = c.in-Some.row.now in
    let conditions = option_list c.args.filter.now.condition in
    let at : drop i t.rows ≡ (number, row) ∷ drop (i + 1) t.rows = search rules in
    let holds : holds_all c.args.filter.now.columns c.args.context.now conditions row ≡ Ok false = search rules in
    record {
      beside = c.loop-i.invariant.beside;
      others = c.loop-i.invariant.others;
      rise = c.loop-i.invariant.rise;
      told = c.loop-i.invariant.told;
      so = passed c.args.filter.now.columns c.args.context.now t conditions c.loop-i.left i number row at holds c.loop-i.invariant.so;
    }

pub loop-i-preserved : goal.loop-i-preserved
loop-i-preserved c =
    let t = c.args.table.now in
    let i = c.loop-i.i in
    let left = c.loop-i.left in
    let after = c.unset.new.self in
    let number = c.in-Some.number in
    let row = c.in-Some.row.now in
    let conditions = option_list c.args.filter.now.condition in
    let at : drop i t.rows ≡ (number, row) ∷ drop (i + 1) t.rows = search rules in
    let holds : holds_all c.args.filter.now.columns c.args.context.now conditions row ≡ Ok true = search rules in
    let unset : after ≡ record left { rows = without_row left.rows number } = search rules in
    let pushed : c.push.new.self ≡ c.loop-i.removed ++ number ∷ [] = search rules in
    let fewer : length after.rows + 1 ≡ length left.rows = one_fewer_so c.args.filter.now.columns c.args.context.now t conditions left after i number row at unset c.loop-i.invariant.so in
    record {
      beside = subst (λ (ns : List ℕ). RowsAgreeBeside ns t.rows after.rows) (sym pushed) (one_gone c.loop-i.removed t.rows left.rows after.rows number (ap (λ (x : Rows). x.rows) unset) c.loop-i.invariant.beside);
      others = still_of t left after (without_row left.rows number) c.loop-i.invariant.others unset;
      rise = rise_so c.args.filter.now.columns c.args.context.now t conditions left after i number row at c.loop-i.invariant.rise unset c.loop-i.invariant.so;
      told = omega (arith, ap (λ (ns : List ℕ). length ns) pushed ∙ push_length c.loop-i.removed number, c.loop-i.invariant.told, fewer);
      so = gone c.args.filter.now.columns c.args.context.now t conditions left after i number row at holds c.loop-i.invariant.rise unset c.loop-i.invariant.so;
    }
