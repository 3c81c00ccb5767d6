use Rattle.std.proofs.Common.{arith}
use Rattle.db_changes.proofs.Counting.{few_new, order_new}
use Rattle.db_changes.proofs.Gathered.{made_as}
use Rattle.db_changes.proofs.made.Made.new.Goals as goal

pub with_rooms-requires-clause-order : goal.with_rooms-requires-clause-order
with_rooms-requires-clause-order c = grind (arith, few_new, order_new, made_as)

pub with_rooms-requires-clause-few : goal.with_rooms-requires-clause-few
with_rooms-requires-clause-few c = grind (arith, few_new, order_new, made_as)

pub returns : goal.returns
returns c = grind (arith, few_new, order_new, made_as)
