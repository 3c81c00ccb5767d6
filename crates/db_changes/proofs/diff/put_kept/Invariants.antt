use Rattle.std.proofs.Common.{◌≡◌, ◌++◌, drop}
use Rattle.std.specs.List.{filter_map}
use Rattle.meaning_merge.specs.Merging.{kept_by}
use Rattle.db_changes.specs.Handles.{fate_in, kept_handle}
use Rattle.db_changes.proofs.diff.put_kept.Given as goal

abbrev pub invariant-loop-i : goal.invariant-loop-i
invariant-loop-i l = record {
  changes : l.changes ++ filter_map (λ t. kept_by t (fate_in l.copy t)) (drop l.i l.base) ≡ l.fn.changes ++ filter_map (λ t. kept_by t (fate_in l.copy t)) l.base;
  handles : l.handles ++ filter_map (λ t. kept_handle t (fate_in l.copy t)) (drop l.i l.base) ≡ l.fn.handles ++ filter_map (λ t. kept_handle t (fate_in l.copy t)) l.base;
}
