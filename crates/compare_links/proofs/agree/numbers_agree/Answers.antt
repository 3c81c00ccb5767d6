use Rattle.std.specs.BTreeMap.{get}
use Rattle.std.specs.Cmp.Lexicographic.{slice_cmp}
use Rattle.std.specs.Ordering.{nat_cmp}
use Rattle.sql_table.proofs.Left.{item_left}
use Rattle.compare_links.proofs.Agreeing.{number-off, number-on}
use Rattle.compare_links.specs.Moving.{agrees_at}
use Rattle.compare_links.proofs.agree.numbers_agree.Goals as goal

pub returns-then-not-number_agrees : goal.returns-then-not-number_agrees
returns-then-not-number_agrees c =
    number-off (agrees_at (get (slice_cmp nat_cmp) c.args.rows.now) c.args.table.now) c.args.numbers.now c.loop-i.i c.item.result.now c.number_agrees.result
    (item_left c.args.numbers.now c.loop-i.i c.item.result.now c.item.ensures) c.number_agrees.ensures c.loop-i.invariant c.if-not-number_agrees.true

pub loop-i-preserved : goal.loop-i-preserved
loop-i-preserved c =
    number-on (agrees_at (get (slice_cmp nat_cmp) c.args.rows.now) c.args.table.now) c.args.numbers.now c.loop-i.i c.item.result.now c.number_agrees.result
    (item_left c.args.numbers.now c.loop-i.i c.item.result.now c.item.ensures) c.number_agrees.ensures c.loop-i.invariant c.if-not-number_agrees.false
