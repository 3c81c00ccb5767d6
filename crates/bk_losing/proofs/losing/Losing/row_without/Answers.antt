use Rattle.std.proofs.Common.{◌≤◌, length, ap, arith}
use Rattle.std.specs.Option.{option_copied}
use Rattle.meaning_merge.specs.Restoring.{without_cells}
use Rattle.bk_losing.specs.Losing.{lost_by}
use Rattle.bk_losing.proofs.Without.{row-end, value-turn}
use Rattle.bk_losing.proofs.losing.Losing.row_without.Goals as goal

pub loop-i-preserved : goal.loop-i-preserved
loop-i-preserved c =
    let lost = lost_by c.args.self.now in
    let cs = c.args.columns.now in
    let values = c.args.row.now.values in
    value-turn lost cs values c.as_slice-value-items.result.now c.loop-i.i c.value-item.result c.in_ok-value_without.field-0 c.loop-i.values c.push.new.self (option_copied c.at.result)
    c.as_slice-value-items.ensures c.loop-i-test.true c.value-item.is c.at.ensures c.in_ok-value_without.ensures c.in_ok-push.ensures.ok (without_cells lost cs values) c.loop-i.invariant

pub returns : goal.returns
returns c =
    let values = c.args.row.now.values in
    let past : length values ≤ c.loop-i.i = omega (arith, c.loop-i-test.false, ap length c.as_slice-value-items.ensures) in
    row-end (lost_by c.args.self.now) c.args.columns.now values c.loop-i.values c.loop-i.i past c.loop-i.invariant
