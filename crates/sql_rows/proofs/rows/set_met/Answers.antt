use Rattle.std.proofs.Common.{◌≡◌, ◌+◌, ◌++◌, ◌∷◌, [], ℕ, List, true, false, drop, length, map, Ok, ap, ◌∙◌, arith, rules, subst, sym}
use Rattle.std.proofs.lemmas.List.{drop_all}
use Rattle.dl_base.specs.declared.value.Row.{Row}
use Rattle.meaning_sql.specs.Conditions.{holds_all}
use Rattle.meaning_sql.specs.Faults.{option_list}
use Rattle.meaning_statements.specs.Changing.{updated_row}
use Rattle.meaning_tables.specs.Tables.{Rise, Rows, with_row}
use Rattle.sql_rows.specs.Beside.{RowsAgreeBeside}
use Rattle.sql_rows.proofs.Beside.{one_set, push_length, same_beside}
use Rattle.sql_rows.proofs.Placing.{rows_alone, still_of}
use Rattle.sql_rows.proofs.Updating.{begun, ended, passed, rise_so, set_so}
use Rattle.sql_rows.proofs.rows.set_met.Goals as goal

pub loop-i-preserved-then-not-is_met : goal.loop-i-preserved-then-not-is_met
loop-i-preserved-then-not-is_met c =
    let t = c.args.table.now in
    let i = c.loop-i.i in
    let number = c.in-Some.number in
    let row = c.in-Some.row.now in
    let rights = map (λ b. b.expr) c.args.rights.now in
    let conditions = option_list c.args.filter.now.condition in
    let at : drop i t.rows ≡ (number, row) ∷ drop (i + 1) t.rows = search rules in
    let holds : holds_all c.args.filter.now.columns c.args.context.now conditions row ≡ Ok false = search rules in
    record {
      beside = c.loop-i.invariant.beside;
      few = c.loop-i.invariant.few;
      met = omega (arith, c.loop-i.invariant.met);
      others = c.loop-i.invariant.others;
      rise = c.loop-i.invariant.rise;
      told = c.loop-i.invariant.told;
      so = passed c.args.filter.now.columns c.args.context.now t conditions c.args.places.now rights c.args.first c.loop-i.made i c.loop-i.k c.loop-i.met number row at holds c.loop-i.invariant.so;
    }

pub loop-i-preserved : goal.loop-i-preserved
loop-i-preserved c =
    let t = c.args.table.now in
    let i = c.loop-i.i in
    let made = c.loop-i.made in
    let after = c.set.new.self in
    let number = c.in-Some.number in
    let row = c.in-Some.row.now in
    let put = c.in_ok-put-in-Some.put in
    let new : Row = record { values = put.values } in
    let rights = map (λ b. b.expr) c.args.rights.now in
    let conditions = option_list c.args.filter.now.condition in
    let at : drop i t.rows ≡ (number, row) ∷ drop (i + 1) t.rows = search rules in
    let holds : holds_all c.args.filter.now.columns c.args.context.now conditions row ≡ Ok true = search rules in
    let becomes : updated_row c.args.filter.now.columns c.args.context.now t.columns c.args.places.now rights c.loop-i.k row ≡ Ok (put.values, put.next) = rw c.columns.ensures at (c.in_ok-put-in-Some.ensures.put c.args.filter.now.columns c.requires.rights) in
    let set : after ≡ record made { rows = with_row made.rows number new } = search rules in
    let pushed : c.push.new.self ≡ c.loop-i.numbers ++ number ∷ [] = search rules in
    record {
      beside = subst (λ (ns : List ℕ). RowsAgreeBeside ns t.rows after.rows) (sym pushed) (one_set c.loop-i.numbers t.rows made.rows after.rows number new (ap (λ (x : Rows). x.rows) set) c.loop-i.invariant.beside);
      few = search rules;
      met = omega (arith, c.loop-i.invariant.met);
      others = still_of t made after (with_row made.rows number new) c.loop-i.invariant.others set;
      rise = rise_so c.args.filter.now.columns c.args.context.now t conditions c.args.places.now rights c.args.first made after i c.loop-i.k c.loop-i.met number row new at c.loop-i.invariant.rise set c.loop-i.invariant.so;
      told = omega (arith, ap (λ (ns : List ℕ). length ns) pushed ∙ push_length c.loop-i.numbers number, c.loop-i.invariant.told);
      so = set_so c.args.filter.now.columns c.args.context.now t conditions c.args.places.now rights c.args.first made after i c.loop-i.k put.next c.loop-i.met number row put.values at holds becomes c.loop-i.invariant.rise set c.loop-i.invariant.so;
    }

pub loop-i-init : goal.loop-i-init
loop-i-init c =
    let t = c.args.table.now in
    record {
      beside = same_beside _ _ _ (ap (λ (x : Rows). x.rows) c.requires.copied);
      few = c.requires.numbers;
      met = omega arith;
      others = rows_alone t _ t.rows c.requires.copied;
      rise = subst (λ (x : Rows). Rise 0 t.next x.rows) (sym c.requires.copied) c.len-i-end.ensures.numbered;
      told = ap (λ (ns : List ℕ). length ns) c.requires.none;
      so = begun c.args.filter.now.columns c.args.context.now t (option_list c.args.filter.now.condition) c.args.places.now (map (λ b. b.expr) c.args.rights.now) c.args.first _ c.requires.copied;
    }

pub returns-in-None : goal.returns-in-None
returns-in-None c =
    let t = c.args.table.now in
    let none : drop c.loop-i.i t.rows ≡ [] = search rules in
    record {
      put = ended c.args.filter.now.columns c.args.context.now t (option_list c.args.filter.now.condition) c.args.places.now (map (λ b. b.expr) c.args.rights.now) c.args.first c.loop-i.made c.loop-i.i c.loop-i.k c.loop-i.met none c.loop-i.invariant.so;
      others = c.loop-i.invariant.others;
      few = c.loop-i.invariant.few;
      beside = c.loop-i.invariant.beside;
      told = c.loop-i.invariant.told;
    }

pub returns : goal.returns
returns c =
    let t = c.args.table.now in
    let none : drop c.loop-i.i t.rows ≡ [] = drop_all c.loop-i.i t.rows (omega (arith, c.loop-i-test.false, c.len-i-end.ensures.value)) in
    record {
      put = ended c.args.filter.now.columns c.args.context.now t (option_list c.args.filter.now.condition) c.args.places.now (map (λ b. b.expr) c.args.rights.now) c.args.first c.loop-i.made c.loop-i.i c.loop-i.k c.loop-i.met none c.loop-i.invariant.so;
      others = c.loop-i.invariant.others;
      few = c.loop-i.invariant.few;
      beside = c.loop-i.invariant.beside;
      told = c.loop-i.invariant.told;
    }
