use Rattle.std.proofs.Common.{◌≡◌, drop, true}
use Rattle.std.specs.List.{list_all}
use Rattle.meaning_areas.specs.Commits.{with_row_changes}
use Rattle.db_replay.specs.Rows.{is_below}
use Rattle.db_replay.proofs.rows.change_each.Given as goal

abbrev pub invariant-loop-change : goal.invariant-loop-change
invariant-loop-change l = record {
  same : l.table ≡ record l.fn.table { rows = l.table.rows };
  rest : with_row_changes l.table.rows (drop l.change-index l.made) ≡ with_row_changes l.fn.table.rows l.made;
  below : list_all (is_below l.next) (drop l.change-index l.made) ≡ true;
}
