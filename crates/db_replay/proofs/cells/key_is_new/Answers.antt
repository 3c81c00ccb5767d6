use Rattle.std.proofs.Common.{◌≡◌, ◌+◌, ◌&&◌, Bool, false, not, drop, List, ◌∷◌, sym, ap, ◌∙◌, rules, is_none, is_some, arith}
use Rattle.std.specs.List.{list_all}
use Rattle.dl_base.specs.declared.column.Column.{Column}
use Rattle.dl_base.specs.declared.value.Value.{Value}
use Rattle.meaning_tables.specs.First.{first_number, has_key}
use Rattle.meaning_tables.specs.Fits.{is_key, key_of}
use Rattle.db_replay.proofs.CellLaws.{key_step}
use Rattle.db_replay.proofs.Loops.{next}
use Rattle.std.proofs.lemmas.Grind.{common_steps}
use Rattle.db_replay.proofs.cells.key_is_new.Goals as goal

pub loop-i-preserved : goal.loop-i-preserved
loop-i-preserved c =
    let t = c.args.table.now in
    let x = c.column-item.result in
    let v = c.index-values-i.result in
    let items : c.as_slice-column-items.result.now ≡ t.columns = search rules in
    let columns = next c.as_slice-column-items.result.now t.columns c.loop-i.i x items c.loop-i-test.true c.column-item.is in
    let values = next c.as_slice-values.result.now c.args.row.now.values c.loop-i.i v c.as_slice-values.ensures c.if-values-i.false c.index-values-i.is in
    let new : (is_key x.rule && is_some (first_number (has_key t.columns v) t.rows)) ≡ false = search rules in
    let left = drop (c.loop-i.i + 1) t.columns in
    let behind = drop (c.loop-i.i + 1) c.args.row.now.values in
    ap (λ (b : Bool). not b && list_all (λ v. is_none (first_number (has_key t.columns v) t.rows)) (key_of left behind)) (sym new)
    ∙ sym (key_step t.columns t.rows x left v behind)
    ∙ ap (λ (cs : List Column). list_all (λ v. is_none (first_number (has_key t.columns v) t.rows)) (key_of cs (v ∷ behind))) (sym columns)
    ∙ ap (λ (vs : List Value). list_all (λ v. is_none (first_number (has_key t.columns v) t.rows)) (key_of (drop c.loop-i.i t.columns) vs)) (sym values)
    ∙ c.loop-i.invariant

pub returns-then-is_stood_key : goal.returns-then-is_stood_key
returns-then-is_stood_key c = grind (arith, common_steps)

pub returns : goal.returns
returns c = grind (arith, common_steps)

pub returns-then-values-i : goal.returns-then-values-i
returns-then-values-i c = grind (arith, common_steps)
