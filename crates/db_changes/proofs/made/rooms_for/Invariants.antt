use Rattle.std.proofs.Common.{◌≡◌, ◌+◌, ◌≤◌, drop}
use Rattle.db_replay.specs.Applying.{new_in}
use Rattle.db_changes.proofs.made.rooms_for.Given as goal

-- the tables so far, and those of the changes that are left, are all; a change makes one at most
abbrev pub invariant-loop-change : goal.invariant-loop-change
invariant-loop-change l = record {
  all : l.made + new_in (drop l.change-index l.handles) ≡ new_in l.handles;
  few : l.made ≤ l.change-index;
}
