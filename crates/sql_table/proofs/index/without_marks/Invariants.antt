use Rattle.std.proofs.Common.{◌≡◌, ℕ, ◌==◌, ◌&&◌, not}
use Rattle.std.specs.List.Sorted.{IsStrictlySortedBy}
use Rattle.std.specs.Vec.Iter.{into_iter_items}
use Rattle.dl_pages.specs.Entries.{entry_order}
use Rattle.dl_pages.specs.Sets.{has}
use Rattle.sql_table.specs.Marks.{among}
use Rattle.sql_table.proofs.index.without_marks.Given as goal

abbrev pub invariant-loop-mark : goal.invariant-loop-mark
invariant-loop-mark g l = record {
  sorted : IsStrictlySortedBy (entry_order g.K.Ordered.order) l.made;
  each : (k : g.row.K.Denot) (n : ℕ) → (not ((l.fn.number == n) && among g.K.Ordered.order k (into_iter_items l.mark-iterator)) && has (entry_order g.K.Ordered.order) l.made (k, n)) ≡ (not ((l.fn.number == n) && among g.K.Ordered.order k l.fn.marks) && has (entry_order g.K.Ordered.order) l.index (k, n));
}
