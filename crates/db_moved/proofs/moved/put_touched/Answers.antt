use Rattle.std.proofs.Common.{◌++◌, List, ap, ◌∙◌}
use Rattle.dl_base.specs.declared.value.LinkRow.{LinkRow}
use Rattle.meaning_tables.specs.Links.{links}
use Rattle.db_moved.proofs.Moving.{touched-none, touched-some}
use Rattle.db_moved.proofs.moved.put_touched.Goals as goal

pub returns-in_ok-put_lacking_of-in-Some : goal.returns-in_ok-put_lacking_of-in-Some
returns-in_ok-put_lacking_of-in-Some c =
    c.in_ok-put_lacking_of-in-Some.ensures
    ∙ ap (λ (xs : List LinkRow). c.args.made.now ++ xs)
    (touched-some (links c.args.others.now) c.args.table.now c.args.touched.now c.args.name.now c.in-Some.numbers.now c.len.ensures.numbered c.in-Some.ensures.value c.in-Some.ensures.rise c.requires)

pub returns-in-None : goal.returns-in-None
returns-in-None c =
    touched-none c.args.made.now (links c.args.others.now) c.args.table.now c.args.touched.now c.args.name.now c.len.ensures.numbered c.in-None.ensures.value c.in-None.ensures.rise c.requires
