use Rattle.meaning_tables.specs.Links.{links}
use Rattle.db_moved.proofs.Moving.{none-linked, stayed}
use Rattle.db_moved.proofs.moved.put_lacking.Goals as goal

pub returns-then-not-has_linked : goal.returns-then-not-has_linked
returns-then-not-has_linked c =
    none-linked c.args.made.now (links c.args.others.now) c.args.table.now c.columns.result.now c.has_linked.result c.columns.ensures c.has_linked.ensures c.if-not-has_linked.true

pub put_touched-requires : goal.put_touched-requires
put_touched-requires c =
    stayed c.is_kept.result c.args.touched.now c.args.name.now c.args.table.now c.in-Some.other.now c.args.others.now c.requires c.in-Some.ensures c.is_kept.ensures c.if-is_kept.true
