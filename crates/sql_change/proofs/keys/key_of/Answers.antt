use Rattle.std.proofs.Common.{◌≡◌, ◌+◌, ◌++◌, ◌∷◌, false, List, length, drop, sym, ap, ◌∙◌, arith, rules}
use Rattle.std.proofs.lemmas.List.{drop_more}
use Rattle.dl_base.specs.declared.column.Column.{Column}
use Rattle.dl_base.specs.declared.value.Value.{Value}
use Rattle.dl_base.specs.declared.value.Value.TheVariants as values_of
use Rattle.meaning_tables.specs.Fits.{key_of, is_key}
use Rattle.sql_change.proofs.Columns.{left}
use Rattle.sql_change.proofs.KeyColumns.{other_column, no_key_past_the_end, key_column}
use Rattle.std.proofs.lemmas.Grind.{common_steps}
use Rattle.sql_change.proofs.keys.key_of.Goals as goal

pub loop-i-preserved-then-not-is_key : goal.loop-i-preserved-then-not-is_key
loop-i-preserved-then-not-is_key c =
    let x = c.column-item.result in
    let i = c.loop-i.i in
    let columns = drop (i + 1) c.args.columns.now in
    let values = drop (i + 1) c.args.row.now.values in
    let plain : is_key x.rule ≡ false = search rules in
    let at = left c.as_slice-column-items.result.now c.args.columns.now i x c.as_slice-column-items.ensures c.loop-i-test.true c.column-item.is in
    let value = drop_more c.args.row.now.values i values_of.Null (omega (arith, ap length c.as_slice-values.ensures)) in
    ap (λ (vs : List Value). c.loop-i.key ++ vs) (sym (other_column x columns _ values plain) ∙ ap (λ (vs : List Value). key_of (x ∷ columns) vs) (sym value) ∙ ap (λ (cs : List Column). key_of cs (drop i c.args.row.now.values)) (sym at)) ∙ c.loop-i.invariant

pub loop-i-preserved : goal.loop-i-preserved
loop-i-preserved c = grind (arith, common_steps, no_key_past_the_end, key_column, other_column)

pub bounds-values-i : goal.bounds-values-i
bounds-values-i c = grind (arith, no_key_past_the_end, key_column, other_column)

pub returns-then-values-i : goal.returns-then-values-i
returns-then-values-i c = grind (arith, common_steps, no_key_past_the_end, key_column, other_column)

pub returns : goal.returns
returns c = grind (arith, common_steps, no_key_past_the_end, key_column, other_column)
