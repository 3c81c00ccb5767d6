use Rattle.std.proofs.Common.{◌≡◌, drop}
use Rattle.std.specs.List.{list_all}
use Rattle.db_replay.specs.Rows.{is_below}
use Rattle.db_replay.proofs.rows.are_below.Given as goal

abbrev pub invariant-loop-change : goal.invariant-loop-change
invariant-loop-change l = list_all (is_below l.next) (drop l.change-index l.made) ≡ list_all (is_below l.next) l.made
