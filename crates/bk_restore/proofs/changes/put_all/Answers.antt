use Rattle.std.proofs.Common.{◌+◌, List, drop, sym, ap, ◌∙◌}
use Rattle.std.proofs.lemmas.Bool.{and_parts}
use Rattle.meaning_tables.specs.Tables.{Tables}
use Rattle.db_replay.proofs.Loops.{next}
use Rattle.db_replay.specs.Applying.{are_new, is_new}
use Rattle.db_replay.specs.Changes.{apply, applied}
use Rattle.db_replay.specs.declared.changes.Change.{Change}
use Rattle.bk_restore.proofs.changes.put_all.Goals as goal

pub put-requires : goal.put-requires
put-requires c =
    let ts = c.loop-change.tables.tables in
    let d = c.change-item.result in
    let rest = drop (c.loop-change.change-index + 1) c.args.handles.now in
    let split = next c.as_slice-change-items.result.now c.args.handles.now c.loop-change.change-index d c.as_slice-change-items.ensures c.loop-change-test.true c.change-item.is in
    (and_parts (is_new ts d) (are_new (apply ts d) rest) (ap (λ (cs : List Change). are_new ts cs) (sym split) ∙ c.loop-change.invariant.new)).0

pub loop-change-preserved : goal.loop-change-preserved
loop-change-preserved c =
    let ts = c.loop-change.tables.tables in
    let d = c.change-item.result in
    let rest = drop (c.loop-change.change-index + 1) c.args.handles.now in
    let split = next c.as_slice-change-items.result.now c.args.handles.now c.loop-change.change-index d c.as_slice-change-items.ensures c.loop-change-test.true c.change-item.is in
    record {
      same = ap (λ (us : Tables). applied us rest) c.in_ok-put.ensures ∙ ap (λ (cs : List Change). applied ts cs) (sym split) ∙ c.loop-change.invariant.same;
      new = ap (λ (us : Tables). are_new us rest) c.in_ok-put.ensures
          ∙ (and_parts (is_new ts d) (are_new (apply ts d) rest) (ap (λ (cs : List Change). are_new ts cs) (sym split) ∙ c.loop-change.invariant.new)).1;
    }
