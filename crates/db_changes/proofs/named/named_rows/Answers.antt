use Rattle.std.proofs.Common.{◌+◌, List, drop, subst}
use Rattle.dl_codec.specs.declared.rows.TableChange.{TableChange}
use Rattle.db_replay.proofs.Loops.{next, none_left}
use Rattle.db_changes.proofs.Leading.{distinct-named}
use Rattle.db_changes.proofs.NamedRows.{Reached, covered, next-reached, none-reached}
use Rattle.db_changes.proofs.named.named_rows.Goals as goal

pub loop-change-init : goal.loop-change-init
loop-change-init c = λ version after leads. none-reached version c.empty-touched.result c.args.before.now after c.args.changes.now (distinct-named c.args.before.now c.len.ensures.distinct) leads

pub loop-change-preserved : goal.loop-change-preserved
loop-change-preserved c = λ version after leads.
    let split = next c.as_slice-change-items.result.now c.args.changes.now c.loop-change.change-index c.change-item.result c.as_slice-change-items.ensures c.loop-change-test.true c.change-item.is in
    next-reached version c.loop-change.touched c.add_named.new.touched c.args.before.now after c.change-item.result (drop (c.loop-change.change-index + 1) c.args.changes.now) c.in-Ok.ensures
    (subst (λ (cs : List TableChange). Reached version c.loop-change.touched c.args.before.now cs after) split (c.loop-change.invariant version after leads))

pub returns : goal.returns
returns c = λ version after leads.
    covered version c.loop-change.touched c.args.before.now after
    (subst (λ (cs : List TableChange). Reached version c.loop-change.touched c.args.before.now cs after)
    (none_left c.as_slice-change-items.result.now c.args.changes.now c.loop-change.change-index c.as_slice-change-items.ensures c.loop-change-test.false) (c.loop-change.invariant version after leads))
