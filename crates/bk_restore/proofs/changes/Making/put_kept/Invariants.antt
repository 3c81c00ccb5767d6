use Rattle.std.proofs.Common.{◌≡◌, ◌++◌, drop}
use Rattle.std.specs.List.{filter_map}
use Rattle.meaning_merge.specs.Restoring.{kept_change}
use Rattle.meaning_tables.specs.Tables.{table_of}
use Rattle.bk_restore.specs.Handles.{kept_handle}
use Rattle.bk_restore.proofs.changes.Making.put_kept.Given as goal

abbrev pub invariant-loop-i : goal.invariant-loop-i
invariant-loop-i l = record {
  changes : l.self.changes ++ filter_map (λ t. kept_change t (table_of l.later t.0)) (drop l.i l.now) ≡ l.fn.self.changes ++ filter_map (λ t. kept_change t (table_of l.later t.0)) l.now;
  handles : l.self.handles ++ filter_map (λ t. kept_handle t (table_of l.later t.0)) (drop l.i l.now) ≡ l.fn.self.handles ++ filter_map (λ t. kept_handle t (table_of l.later t.0)) l.now;
}
