use Rattle.std.proofs.Common.{Bool, true, None, Some, sym, ◌∙◌, ap, subst}
use Rattle.std.specs.Result.{result_err}
use Rattle.dl_areas.specs.Writing.{Does}
use Rattle.fm_manager.specs.Managed.{IsTakenBy, as_writes}
use Rattle.meaning_areas.specs.Lists.{folds_on}
use Rattle.sys_core.proofs.RollingBack.{aborts}
use Rattle.sys_core.proofs.Spelled.{aborts-spelled}
use Rattle.sys_owners.proofs.Placing.{manager-does, manager-open, on-ok, with_manager}
use Rattle.sys_owners.specs.Owned.{Owned, folds_in, journals_of}
use Rattle.sys_core.proofs.engine.Engine.abort.Goals as goal

pub returns-then-not-branch-clause-folds : goal.returns-then-not-branch-clause-folds
returns-then-not-branch-clause-folds g c = ap (λ (b : Bool). folds_on (Some (folds_in c.args.self.now.owners)) (aborts b c.args.tx)) c.if-not-branch.true

pub returns-then-not-branch-clause-does : goal.returns-then-not-branch-clause-does
returns-then-not-branch-clause-does g c =
    let O = g.B.Bench.outside in
    let w = c.args.self.now.owners in
    subst (λ (b : Bool). Does (journals_of w) (journals_of w) (as_writes (aborts b c.args.tx)) None (O c.args.bench.now) (O c.args.bench.now)) (sym c.if-not-branch.true)
    (c.calls_follow_one_another.ensures.none (journals_of w) c.args.bench.now)

pub abort-requires-clause-ready : goal.abort-requires-clause-ready
abort-requires-clause-ready g c = manager-open c.args.self.now.owners (g.B.Bench.outside c.args.bench.now) c.requires.ready

pub abort-requires-clause-taken : goal.abort-requires-clause-taken
abort-requires-clause-taken g c = subst (λ (b : Bool). IsTakenBy c.args.self.now.owners.manager (aborts b c.args.tx)) c.if-not-branch.false c.requires.taken

pub returns-clause-folds : goal.returns-clause-folds
returns-clause-folds g c =
    let w = c.args.self.now.owners in
    on-ok c.abort.result c.abort.ensures.folds (λ leads.
    ap (λ (b : Bool). folds_on (Some (folds_in w)) (aborts b c.args.tx)) c.if-not-branch.false ∙ leads w.store.rows w.backups.backups)

pub returns-clause-does : goal.returns-clause-does
returns-clause-does g c =
    let O = g.B.Bench.outside in
    let w = c.args.self.now.owners in
    let u : Owned = with_manager w c.abort.new.self in
    let fault = result_err c.abort.result in
    subst (λ (b : Bool). Does (journals_of w) (journals_of u) (as_writes (aborts b c.args.tx)) fault (O c.args.bench.now) (O c.abort.new.bench)) (sym c.if-not-branch.false)
    (manager-does w (as_writes (aborts true c.args.tx)) fault (O c.args.bench.now) (O c.abort.new.bench) c.requires.ready c.abort.new.self c.abort.ensures.does)

pub returns-then-not-branch-clause-spelled : goal.returns-then-not-branch-clause-spelled
returns-then-not-branch-clause-spelled g c = aborts-spelled c.args.tx c.ranges.tx.fits c.args.branch

pub returns-clause-spelled : goal.returns-clause-spelled
returns-clause-spelled g c = aborts-spelled c.args.tx c.ranges.tx.fits c.args.branch
