use Rattle.std.proofs.Common.{IfOk, subst, ◌∙◌}
use Rattle.meaning_tables.specs.Tables.{Tables}
use Rattle.bk_restore.specs.Planning.{IsPlannedTo}
use Rattle.bk_restore.proofs.planning.plan_to.Goals as goal

pub returns : goal.returns
returns c =
    subst (λ (now : Tables). IfOk c.plan_from-planned.result (IsPlannedTo now c.args.files.now.files c.args.archive.now.copies c.args.target.now))
    (c.in_ok-now.ensures ∙ c.committed.ensures.tables) c.plan_from-planned.ensures
