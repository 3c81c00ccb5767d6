use Rattle.std.proofs.Common.{List, map, ap, ◌∙◌, arith}
use Rattle.dl_base.specs.declared.column.Column.{Column}
use Rattle.meaning_sql.specs.Faults.{option_list}
use Rattle.sql_change.specs.Keys.{sets_key}
use Rattle.sql_change.proofs.Touched.{replaced_beside, replaced_told}
use Rattle.sql_change.proofs.Unset.{unset_hold}
use Rattle.std.proofs.lemmas.Grind.{common_steps}
use Rattle.sql_change.specs.Parts.{set_rows}
use Rattle.sql_change.proofs.updating.set_rows.Goals as goal

pub keys_differ-differ-requires-clause-unset : goal.keys_differ-differ-requires-clause-unset
keys_differ-differ-requires-clause-unset c = λ none.
    unset_hold c.args.columns.now c.args.context.now c.args.table.now (option_list c.args.filter.now) c.args.places.now (map (λ s. s.1) c.args.sets.now) c.args.k c.in_ok-made.made.table c.in_ok-made.made.next c.in_ok-made.made.met c.requires.fits
    c.in_ok-made.ensures.put c.in_ok-made.ensures.others c.sets_key-keyed.result (c.sets_key-keyed.ensures ∙ ap (λ (x : List Column). sets_key x c.args.places.now) c.columns.ensures) none

pub returns-clause-beside : goal.returns-clause-beside
returns-clause-beside c = replaced_beside c.in_ok-made.made c.args.table.now.rows c.replaced.result c.replaced.ensures.same c.in_ok-made.ensures.beside

pub returns-clause-told : goal.returns-clause-told
returns-clause-told c = replaced_told c.in_ok-made.made c.replaced.result c.replaced.ensures.same c.in_ok-made.ensures.told

pub returns-clause-few : goal.returns-clause-few
unfolding set_rows
returns-clause-few c = grind (arith, common_steps)

pub returns-clause-made : goal.returns-clause-made
unfolding set_rows
returns-clause-made c = grind (arith, common_steps)

pub replaced-requires : goal.replaced-requires
unfolding set_rows
replaced-requires c = grind (arith, common_steps)
