use Rattle.std.proofs.Common.{◌≡◌, drop, true}
use Rattle.meaning_tables.specs.Fits.{fits}
use Rattle.db_replay.specs.Replaying.{columns_stand_in}
use Rattle.db_replay.specs.Standing.{without_all}
use Rattle.db_replay.proofs.standing.take_all.Given as goal

abbrev pub invariant-loop-change : goal.invariant-loop-change
invariant-loop-change l = record {
  same : fits l.fn.left ≡ fits l.left;
  rest : without_all l.left (drop l.change-index l.changes) ≡ without_all l.fn.left l.changes;
  columns : columns_stand_in l.left ≡ true;
}
