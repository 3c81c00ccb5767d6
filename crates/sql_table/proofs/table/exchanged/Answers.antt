use Rattle.std.proofs.Common.{◌∙◌, Some, ap, refl, sym}
use Rattle.std.proofs.lemmas.Result.{IfOk-weaker}
use Rattle.std.specs.Option.{option_map}
use Rattle.dl_base.specs.declared.value.Row.{Row}
use Rattle.sql_table.specs.Keys.{key_marks}
use Rattle.sql_table.specs.Marks.{link_marks}
use Rattle.sql_table.proofs.Kept.{kept_joined, kept_replaced}
use Rattle.sql_table.proofs.table.exchanged.Goals as goal

pub returns-in-Ok-clause-kept : goal.returns-in-Ok-clause-kept
returns-in-Ok-clause-kept c =
    IfOk-weaker c.joined.result _ _ (λ made is. kept_joined c.args.columns.now c.args.next c.swapped.result c.in-Ok.indexes made.0 made.1 made.2 is (IfOk-weaker c.swapped.result _ _ (λ rows e.
    kept_replaced c.args.columns.now c.args.next c.args.number c.args.rows.now rows c.args.links.now c.in-Ok.indexes.0 c.args.keys.now c.in-Ok.indexes.1 c.row-before.result.now c.args.row
    (link_marks c.args.columns.now c.row-before.result.now) (link_marks c.args.columns.now c.args.row) (key_marks c.args.columns.now c.row-before.result.now) (key_marks c.args.columns.now c.args.row)
    c.requires.kept (c.requires.at.found ∙ ap (option_map (λ r. r.1)) c.item.ensures ∙ ap (λ (r : Row). Some r) (sym c.row-before.ensures)) refl refl c.in-Ok.ensures.links refl refl c.in-Ok.ensures.keys e) c.swapped.ensures)) c.joined.ensures.made
