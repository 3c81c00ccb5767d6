use Rattle.std.proofs.Common.{◌≡◌, ap, ◌∙◌}
use Rattle.meaning_merge.specs.Restoring.{is_lost, lost_cells, without_lost}
use Rattle.bk_losing.specs.Losing.{lost_by}
use Rattle.bk_restore.proofs.PlanLaws.{plan-same}
use Rattle.bk_restore.proofs.planning.cleared.Goals as goal

pub returns : goal.returns
returns c =
    let files = c.args.files.now.files in
    let takes = c.args.takes.now in
    let target = c.args.target.now in
    let same : lost_by c.in_ok-losing.losing ≡ is_lost files takes = c.in_ok-losing.ensures in
    plan-same c.args.now.now c.in_ok-later.later (without_lost (is_lost files takes) target) c.in_ok-lost.lost (lost_cells (is_lost files takes) target) c.plan_of.result
    (c.in_ok-later.ensures ∙ ap (λ lost. without_lost lost target) same) (c.in_ok-lost.ensures ∙ ap (λ lost. lost_cells lost target) same) c.plan_of.ensures
