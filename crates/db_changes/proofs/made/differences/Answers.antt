use Rattle.std.proofs.Common.{◌==◌, filter, map}
use Rattle.std.specs.List.{filter_map}
use Rattle.meaning_merge.specs.Merging.{dropped_by, kept_by, new_by}
use Rattle.db_changes.specs.Handles.{dropped_handle, fate_in, kept_handle, new_handle}
use Rattle.db_changes.proofs.Gathered.{gathered}
use Rattle.db_changes.proofs.made.differences.Goals as goal

pub returns-clause-changes : goal.returns-clause-changes
returns-clause-changes c =
    let base = c.args.base.now in
    let copy = c.args.copy.now in
    gathered c.empty-changes.result c.put_dropped.new.changes c.put_kept.new.changes c.put_new.new.changes
    (filter_map (λ t. dropped_by t (fate_in copy t)) base) (filter_map (λ t. kept_by t (fate_in copy t)) base) (map new_by (filter (λ t. t.1.version == 0) copy))
    c.empty-changes.ensures c.in_ok-put_dropped.ensures.changes c.in_ok-put_kept.ensures.changes c.in_ok-put_new.ensures.changes

pub returns-clause-handles : goal.returns-clause-handles
returns-clause-handles c =
    let base = c.args.base.now in
    let copy = c.args.copy.now in
    gathered c.empty-handles.result c.put_dropped.new.handles c.put_kept.new.handles c.put_new.new.handles
    (filter_map (λ t. dropped_handle t (fate_in copy t)) base) (filter_map (λ t. kept_handle t (fate_in copy t)) base) (map new_handle (filter (λ t. t.1.version == 0) copy))
    c.empty-handles.ensures c.in_ok-put_dropped.ensures.handles c.in_ok-put_kept.ensures.handles c.in_ok-put_new.ensures.handles
