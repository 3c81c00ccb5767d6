use Rattle.std.proofs.Common.{◌≡◌, ℕ, [], Option, None, subst, rules}
use Rattle.db_replay.proofs.Taking.{if_ok}
use Rattle.meaning_areas.specs.Commits.{tables_after}
use Rattle.bk_restore.specs.Planning.{HasOwned, IsPlanned, IsPlannedTo}
use Rattle.bk_restore.proofs.PlanLaws.{is-planned}
use Rattle.bk_restore.proofs.planning.plan.Goals as goal

pub returns-in-Some-2 : goal.returns-in-Some-2
returns-in-Some-2 c s owned =
    let d = c.args.store.now in
    let b = c.args.backups.now in
    let f = c.args.files.now in
    let a = c.args.archive.now in
    let free : c.args.unfinished ≡ None = search rules in
    if_ok c.plan_to.result (IsPlannedTo (tables_after [] d.rows.commits) f.files a.copies c.in-Some-2.tables) (IsPlanned s c.args.target)
    (λ p is. is-planned s c.args.target d b f a (subst (λ (o : Option ℕ). HasOwned s d b f a o) free owned) c.in_ok-tables.field-0 c.in_ok-tables.ensures c.in-Some-2.tables c.in-Some-2.is p is)
    c.plan_to.ensures
