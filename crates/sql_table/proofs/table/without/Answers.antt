use Rattle.std.proofs.Common.{◌∙◌, Some, ap, refl, sym}
use Rattle.std.proofs.lemmas.Result.{IfOk-weaker}
use Rattle.std.specs.Option.{option_map}
use Rattle.dl_base.specs.declared.value.Row.{Row}
use Rattle.sql_table.specs.Keys.{key_marks}
use Rattle.sql_table.specs.Marks.{link_marks}
use Rattle.sql_table.proofs.Kept.{kept_joined, kept_removed}
use Rattle.sql_table.proofs.table.without.Goals as goal

pub returns-clause-kept : goal.returns-clause-kept
returns-clause-kept c =
    IfOk-weaker c.joined.result _ _ (λ made is. kept_joined c.args.columns.now c.args.next c.dropped.result c.in_ok-indexes.indexes made.0 made.1 made.2 is (IfOk-weaker c.dropped.result _ _ (λ rows e.
    kept_removed c.args.columns.now c.args.next c.args.number c.args.rows.now rows c.args.links.now c.in_ok-indexes.indexes.0 c.args.keys.now c.in_ok-indexes.indexes.1 c.row-before.result.now
    (link_marks c.args.columns.now c.row-before.result.now) (key_marks c.args.columns.now c.row-before.result.now)
    c.requires.kept (c.requires.at.found ∙ ap (option_map (λ r. r.1)) c.item.ensures ∙ ap (λ (r : Row). Some r) (sym c.row-before.ensures)) refl c.in_ok-indexes.ensures.links refl c.in_ok-indexes.ensures.keys e) c.dropped.ensures)) c.joined.ensures.made
