use Rattle.std.proofs.Common.{◌≡◌, drop, true}
use Rattle.meaning_tables.specs.Fits.{fits}
use Rattle.db_replay.specs.Replaying.{columns_stand_in}
use Rattle.db_replay.specs.Standing.{without_rows}
use Rattle.db_replay.proofs.standing.take_rows.Given as goal

abbrev pub invariant-loop-change : goal.invariant-loop-change
invariant-loop-change l = record {
  same : fits l.fn.left ≡ fits l.left;
  rest : without_rows l.left l.name (drop l.change-index l.made) ≡ without_rows l.fn.left l.name l.made;
  columns : columns_stand_in l.left ≡ true;
}
