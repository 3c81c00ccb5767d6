use Rattle.std.proofs.Common.{◌≡◌, drop, true}
use Rattle.db_replay.specs.Applying.{are_new}
use Rattle.db_replay.specs.Changes.{applied}
use Rattle.bk_restore.proofs.changes.put_all.Given as goal

-- what is left leads from the tables so far where all leads from the first
abbrev pub invariant-loop-change : goal.invariant-loop-change
invariant-loop-change l = record {
  same : applied l.tables.tables (drop l.change-index l.handles) ≡ applied l.fn.tables.tables l.handles;
  new : are_new l.tables.tables (drop l.change-index l.handles) ≡ true;
}
