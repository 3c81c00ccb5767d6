use Rattle.std.proofs.Common.{◌≡◌, ◌≤◌, ℕ, sym, ◌∙◌, ap, arith}
use Rattle.sys_core.proofs.Deciding.{conflict-ends, conflict-fault, conflict-taken, pieces-branch}
use Rattle.sys_core.proofs.Spelled.{conflict-spelled}
use Rattle.sys_core.specs.declared.engine.Engine.{Engine}
use Rattle.sys_core.proofs.engine.Engine.refuse_conflict.Goals as goal

same_le : (a b : ℕ) → b ≡ a → a ≤ b
same_le a b e = omega (arith, e)

pub abort-requires-clause-taken : goal.abort-requires-clause-taken
abort-requires-clause-taken g c =
    let w = c.args.self.now in
    let it = c.requires.stands in
    let b = it.3 in
    conflict-taken c.each_step_leads_on.ensures.kept it.0 w it.1 c.args.txn.now.session c.args.tx it.2 c.args.pieces b c.args.refusal it.4 c.is_some-branch.result (c.is_some-branch.ensures ∙ pieces-branch it.1 c.args.tx it.2 c.args.pieces b.has)

pub returns-in-Ok-clause-steps : goal.returns-in-Ok-clause-steps
returns-in-Ok-clause-steps g c first s t b to =
    let O = g.B.Bench.outside in
    let w = c.args.self.now in
    let k = c.abort.new.self in
    let owners = ap (λ (e : Engine). e.owners) c.in-Ok.ensures.same in
    conflict-ends c.each_step_leads_on.ensures.kept first w s c.args.txn.now.session c.args.tx t c.args.pieces b c.claims_behind_steps_of_a_session.ensures.decide c.seats_count_together.ensures.taken k c.end.new.self
    (c.in-Ok.ensures.same ∙ ap (λ o. record w { owners = o }) (sym owners)) c.end.ensures.same c.end.ensures.claims (ap (λ (e : Engine). e.owners.store.drawn) c.in-Ok.ensures.same)
    (same_le w.owners.store.spare k.owners.store.spare (ap (λ (e : Engine). e.owners.store.spare) c.in-Ok.ensures.same)) (same_le w.owners.manager.archive.spare k.owners.manager.archive.spare (ap (λ (e : Engine). e.owners.manager.archive.spare) c.in-Ok.ensures.same))
    (O c.args.bench.now) (O c.abort.new.bench) c.args.refusal to c.is_some-branch.result (c.is_some-branch.ensures ∙ pieces-branch s c.args.tx t c.args.pieces b.has) c.in-Ok.ensures.folds c.in-Ok.ensures.does

pub returns-in-Err-clause-steps : goal.returns-in-Err-clause-steps
returns-in-Err-clause-steps g c first s t b to =
    let O = g.B.Bench.outside in
    conflict-fault c.each_step_leads_on.ensures.kept first c.args.self.now s c.args.txn.now.session c.args.tx t c.args.pieces b c.args.refusal to c.is_some-branch.result (c.is_some-branch.ensures ∙ pieces-branch s c.args.tx t c.args.pieces b.has) c.abort.new.self c.in-Err.fault
    (O c.args.bench.now) (O c.abort.new.bench) c.in-Err.ensures.does

pub returns-in-Ok-clause-spelled : goal.returns-in-Ok-clause-spelled
returns-in-Ok-clause-spelled g c first s t b to =
    conflict-spelled first c.args.self.now s c.args.txn.now.session c.args.tx t c.args.pieces b c.args.refusal to c.is_some-branch.result (c.is_some-branch.ensures ∙ pieces-branch s c.args.tx t c.args.pieces b.has) c.in-Ok.ensures.spelled

pub returns-in-Err-clause-spelled : goal.returns-in-Err-clause-spelled
returns-in-Err-clause-spelled g c first s t b to =
    conflict-spelled first c.args.self.now s c.args.txn.now.session c.args.tx t c.args.pieces b c.args.refusal to c.is_some-branch.result (c.is_some-branch.ensures ∙ pieces-branch s c.args.tx t c.args.pieces b.has) c.in-Err.ensures.spelled
