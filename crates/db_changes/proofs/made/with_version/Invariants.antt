use Rattle.std.proofs.Common.{◌≡◌, ◌++◌, drop, map, take}
use Rattle.db_replay.specs.Changes.{at_version}
use Rattle.db_changes.proofs.made.with_version.Given as goal

abbrev pub invariant-loop-change : goal.invariant-loop-change
invariant-loop-change l = l.change-items ≡ map (at_version l.version) (take l.change-index l.fn.changes) ++ drop l.change-index l.fn.changes
