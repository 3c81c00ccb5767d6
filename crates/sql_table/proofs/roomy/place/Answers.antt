use Rattle.std.proofs.Common.{arith}
use Rattle.sql_table.proofs.Ordered.{place_none}
use Rattle.sql_table.proofs.roomy.place.Goals as goal

pub returns-else-rank-order : goal.returns-else-rank-order
returns-else-rank-order c =
    place_none c.args.names.now c.args.order.now c.requires c.args.name.now c.rank-rank.result c.rank-rank.ensures (λ lt. absurd (omega (arith, lt, c.if-rank-order.false)))
