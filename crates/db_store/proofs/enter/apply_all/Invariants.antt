use Rattle.std.proofs.Common.{◌≡◌, ◌+◌, ◌≤◌, true}
use Rattle.std.specs.Vec.Iter.{into_iter_items}
use Rattle.db_replay.specs.Applying.{are_new, new_in}
use Rattle.db_replay.specs.Changes.{applied}
use Rattle.db_store.proofs.enter.apply_all.Given as goal

-- what is left leads from the tables so far where all leads from the first, and there is room for it
abbrev pub invariant-loop-change : goal.invariant-loop-change
invariant-loop-change l = record {
  same : applied l.tables.tables (into_iter_items l.change-iterator) ≡ applied l.initial.tables.tables l.fn.changes;
  new : are_new l.tables.tables (into_iter_items l.change-iterator) ≡ true;
  room : new_in (into_iter_items l.change-iterator) ≤ l.tables.spare;
  spare : l.initial.tables.spare + new_in (into_iter_items l.change-iterator) ≤ l.tables.spare + new_in l.fn.changes;
}
