use Rattle.std.proofs.Common.{refl, ap, ◌∙◌}
use Rattle.db_changes.proofs.Leading.{distinct-named}
use Rattle.db_replay.specs.Applying.{are_new}
use Rattle.bk_restore.proofs.Leading.{handles-new}
use Rattle.bk_restore.proofs.PlanLaws.{plan-of}
use Rattle.bk_restore.proofs.planning.plan_of.Goals as goal

pub moved-requires : goal.moved-requires
moved-requires c =
    ap (are_new c.args.now.now) c.in_ok-changes.ensures.handles
    ∙ handles-new c.args.now.now c.args.later.now (distinct-named c.args.now.now c.len.ensures.distinct) (distinct-named c.args.later.now c.len-2.ensures.distinct)

pub returns : goal.returns
returns c =
    let made = c.in_ok-changes.field-0 in
    plan-of c.args.now.now c.args.later.now c.args.lost
    (record { lost = c.args.lost; changes = made.changes; handles = made.handles; gives = c.in_ok-gives.gives; takes = c.in_ok-gives.takes; fill = c.is_any_filled-fill.result })
    made.handles (distinct-named c.args.now.now c.len.ensures.distinct) refl c.in_ok-changes.ensures.changes refl c.in_ok-changes.ensures.handles c.in_ok-gives.ensures.gives c.in_ok-gives.ensures.takes c.is_any_filled-fill.ensures
