use Rattle.std.proofs.Common.{◌∙◌, sym, arith}
use Rattle.meaning_tables.specs.Links.{links}
use Rattle.sql_table.proofs.Differing.{covers_more, covers_none, covers_same}
use Rattle.std.proofs.lemmas.Grind.{common_steps}
use Rattle.sql_table.proofs.link_rows.lacking_rows.Goals as goal

pub loop-i-init : goal.loop-i-init
loop-i-init c = covers_none (links c.args.others.now) c.empty-numbers.result c.empty-numbers.ensures

pub loop-i-preserved-then-has_number : goal.loop-i-preserved-then-has_number
loop-i-preserved-then-has_number c =
    covers_same (links c.args.others.now) c.args.entries.now c.loop-i.i c.item-entry.result.now c.item-entry.ensures c.loop-i.numbers c.loop-i.invariant (sym c.has_number.ensures ∙ c.if-has_number.true)

pub loop-i-preserved : goal.loop-i-preserved
loop-i-preserved c =
    covers_more (links c.args.others.now) c.args.entries.now c.loop-i.i c.item-entry.result.now c.item-entry.ensures c.loop-i.numbers c.in_ok-numbers.numbers c.loop-i.invariant (c.in_ok-numbers.ensures c.loop-i.invariant.sorted)

pub returns : goal.returns
returns c = grind (arith, common_steps)
