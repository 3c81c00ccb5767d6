use Rattle.std.proofs.Common.{◌≡◌, ◌+◌, ◌<◌, ◌-◌, ◌/◌, true, false, get_or, arith}
use Rattle.sql_table.specs.Roomy.{less, named}
use Rattle.sql_table.proofs.Ordered.{upto, down, tells}
use Rattle.sql_table.proofs.roomy.rank.Goals as goal

pub loop-low-preserved-then-is_lt : goal.loop-low-preserved-then-is_lt
loop-low-preserved-then-is_lt c =
    let inv = c.loop-low.invariant in
    let middle = c.loop-low.low + (c.loop-low.high - c.loop-low.low) / 2 in
    let under : middle < c.loop-low.high = omega (arith, c.loop-low-test.true) in
    let seen : less (named c.args.names.now c.args.order.now middle) c.args.name.now ≡ true =
    tells c.args.names.now (get_or c.args.order.now middle 0) c.index-names-order.result c.args.name.now c.bytes.result.now c.bytes-in-loop-low.result.now c.cmp.result true (c.requires.within middle (omega (arith, under, inv.1)))
    c.index-names-order.is c.bytes.ensures.value c.bytes-in-loop-low.ensures.value c.cmp.ensures c.if-is_lt.ensures in (
      omega (arith, under),
      inv.1,
      λ i before. upto c.args.names.now c.args.order.now c.requires c.args.name.now i middle seen (omega (arith, before)) (omega (arith, under, inv.1)),
      inv.3,
    )

pub loop-low-preserved : goal.loop-low-preserved
loop-low-preserved c =
    let inv = c.loop-low.invariant in
    let middle = c.loop-low.low + (c.loop-low.high - c.loop-low.low) / 2 in
    let under : middle < c.loop-low.high = omega (arith, c.loop-low-test.true) in
    let seen : less (named c.args.names.now c.args.order.now middle) c.args.name.now ≡ false =
    tells c.args.names.now (get_or c.args.order.now middle 0) c.index-names-order.result c.args.name.now c.bytes.result.now c.bytes-in-loop-low.result.now c.cmp.result false (c.requires.within middle (omega (arith, under, inv.1)))
    c.index-names-order.is c.bytes.ensures.value c.bytes-in-loop-low.ensures.value c.cmp.ensures c.if-is_lt.ensures in (
      omega arith,
      omega (arith, under, inv.1),
      inv.2,
      λ i from within. down c.args.names.now c.args.order.now c.requires c.args.name.now i middle seen from within,
    )
