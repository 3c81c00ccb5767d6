use Rattle.std.proofs.Common.{◌+◌, drop}
use Rattle.db_changes.proofs.Leading.{distinct-named}
use Rattle.db_moved.proofs.Comparing.{agree_at, old_at, same_names}
use Rattle.db_moved.proofs.same.are_same_at.Goals as goal

pub is_same_table-requires-clause-old : goal.is_same_table-requires-clause-old
is_same_table-requires-clause-old c =
    old_at c.args.base.now c.args.index (c.in-Some-Some.name.now, c.in-Some-Some.was.now) (drop (c.args.index + 1) c.args.base.now) c.requires.committed c.in-Some-Some.ensures.left

pub is_same_table-requires-clause-agree : goal.is_same_table-requires-clause-agree
is_same_table-requires-clause-agree c =
    agree_at c.args.touched.now c.args.base.now c.args.copy.now c.args.index c.in-Some-Some.name.now c.in-Some-Some.other.now c.in-Some-Some.was.now c.in-Some-Some.now.now
    (drop (c.args.index + 1) c.args.base.now) (drop (c.args.index + 1) c.args.copy.now) c.requires.covers
    (distinct-named c.args.base.now c.len.ensures.distinct) (distinct-named c.args.copy.now c.len-2.ensures.distinct)
    c.in-Some-Some.ensures.left c.in-Some-Some.ensures'.left (same_names c.eq.result c.bytes.result.now c.bytes-in-Some-Some.result.now c.in-Some-Some.name.now c.in-Some-Some.other.now c.eq.ensures c.if-eq.true c.bytes.ensures.value c.bytes-in-Some-Some.ensures.value)
