use Rattle.std.proofs.Common.{◌+◌, refl}
use Rattle.std.proofs.lemmas.Result.{IfOk-weaker}
use Rattle.sql_table.specs.Keys.{key_marks}
use Rattle.sql_table.specs.Marks.{link_marks}
use Rattle.sql_table.proofs.Kept.{kept_joined, kept_pushed}
use Rattle.sql_table.proofs.table.pushed.Goals as goal

pub returns-in-Ok-clause-kept : goal.returns-in-Ok-clause-kept
returns-in-Ok-clause-kept c =
    IfOk-weaker c.joined.result _ _ (λ made is. kept_joined c.args.columns.now (c.args.number + 1) c.appended.result c.in-Ok.indexes made.0 made.1 made.2 is (IfOk-weaker c.appended.result _ _ (λ rows e.
    kept_pushed c.args.columns.now c.args.number c.args.rows.now rows c.args.links.now c.in-Ok.indexes.0 c.args.keys.now c.in-Ok.indexes.1 c.args.row (link_marks c.args.columns.now c.args.row) (key_marks c.args.columns.now c.args.row)
    c.requires refl c.in-Ok.ensures.links refl c.in-Ok.ensures.keys e) c.appended.ensures)) c.joined.ensures.made
