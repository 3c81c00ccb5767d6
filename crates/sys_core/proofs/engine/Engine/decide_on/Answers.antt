use Rattle.std.proofs.Common.{[], true, Ok, refl, sym, ◌∙◌, arith}
use Rattle.dl_base.specs.declared.answer.Answer.TheVariants as answers
use Rattle.dl_base.specs.declared.step.Step.TheVariants as steps
use Rattle.meaning_system.specs.Writes.{writes}
use Rattle.sys_core.proofs.Deciding.{changes-told, commit-state, conflict-state, decides-to, nothing-ends, nothing-state, nothing-writes, shows-decided, shows-ended}
use Rattle.sys_owners.specs.Owned.{journals_of}
use Rattle.sys_records.proofs.Spelled.{as-spelled}
use Rattle.sys_core.proofs.engine.Engine.decide_on.Goals as goal

-- it changes nothing

pub returns-then-changes_nothing-clause-steps : goal.returns-then-changes_nothing-clause-steps
returns-then-changes_nothing-clause-steps g c first s t d =
    let O = g.B.Bench.outside in
    let w = c.args.self.now in
    let v = c.args.txn.now in
    let same = changes-told first w s v c.args.tx t c.args.vote d true (sym c.changes_nothing.ensures ∙ c.if-changes_nothing.true) in
    nothing-ends c.each_step_leads_on.ensures.kept first w s v.session c.args.tx t c.args.vote.pieces d.between c.claims_behind_steps_of_a_session.ensures.decide c.seats_count_together.ensures.taken w c.end.new.self refl c.end.ensures.same c.end.ensures.claims refl
    (omega arith) (omega arith) (O c.args.bench.now) (O c.args.bench.now) same refl (c.calls_follow_one_another.ensures.none (journals_of w.owners) c.args.bench.now)

pub returns-then-changes_nothing-clause-shows : goal.returns-then-changes_nothing-clause-shows
returns-then-changes_nothing-clause-shows g c first s t d =
    let w = c.args.self.now in
    let v = c.args.txn.now in
    let same = changes-told first w s v c.args.tx t c.args.vote d true (sym c.changes_nothing.ensures ∙ c.if-changes_nothing.true) in
    shows-ended (steps.Decide v.session) s s v c.end.new.txn c.args.tx (Ok answers.Done) (nothing-state s v.session c.args.tx t d.between.is d.between.in_phase same) c.end.ensures.txn

-- it has a conflict

pub refuse_conflict-requires-clause-stands : goal.refuse_conflict-requires-clause-stands
refuse_conflict-requires-clause-stands g c =
    let w = c.args.self.now in
    let v = c.args.txn.now in
    let it = c.requires.deciding in
    let to = decides-to it.0 w it.1 v c.args.tx it.2 c.args.vote it.3 c.base.result.now c.committed.result.now.tables c.conflict.result (sym c.changes_nothing.ensures ∙ c.if-changes_nothing.false) c.base.ensures.value c.committed.ensures.tables c.conflict.ensures in
    (it.0, it.1, it.2, it.3.between, (to.0, to.1 ∙ c.in-Some.is))

pub returns-in-Some-clause-steps : goal.returns-in-Some-clause-steps
returns-in-Some-clause-steps g c first s t d =
    let w = c.args.self.now in
    let v = c.args.txn.now in
    let to = decides-to first w s v c.args.tx t c.args.vote d c.base.result.now c.committed.result.now.tables c.conflict.result (sym c.changes_nothing.ensures ∙ c.if-changes_nothing.false) c.base.ensures.value c.committed.ensures.tables c.conflict.ensures in
    c.refuse_conflict.ensures.steps first s t d.between (to.0, to.1 ∙ c.in-Some.is)

pub returns-in-Some-clause-shows : goal.returns-in-Some-clause-shows
returns-in-Some-clause-shows g c first s t d =
    let w = c.args.self.now in
    let v = c.args.txn.now in
    let to = decides-to first w s v c.args.tx t c.args.vote d c.base.result.now c.committed.result.now.tables c.conflict.result (sym c.changes_nothing.ensures ∙ c.if-changes_nothing.false) c.base.ensures.value c.committed.ensures.tables c.conflict.ensures in
    shows-ended (steps.Decide v.session) s s v c.refuse_conflict.new.txn c.args.tx c.refuse_conflict.result (conflict-state s v.session c.args.tx t d.between.is d.between.in_phase c.in-Some.refusal (to.0, to.1 ∙ c.in-Some.is)) c.refuse_conflict.ensures.txn

-- it has none

pub commit_made-requires-clause-stands : goal.commit_made-requires-clause-stands
commit_made-requires-clause-stands g c =
    let w = c.args.self.now in
    let v = c.args.txn.now in
    let it = c.requires.deciding in
    let to = decides-to it.0 w it.1 v c.args.tx it.2 c.args.vote it.3 c.base.result.now c.committed.result.now.tables c.conflict.result (sym c.changes_nothing.ensures ∙ c.if-changes_nothing.false) c.base.ensures.value c.committed.ensures.tables c.conflict.ensures in
    (it.0, it.1, v.session, it.2, it.3.between, (to.0, to.1 ∙ c.in-None.is), it.3.made)

pub returns-in-None-clause-steps : goal.returns-in-None-clause-steps
returns-in-None-clause-steps g c first s t d =
    let w = c.args.self.now in
    let v = c.args.txn.now in
    let to = decides-to first w s v c.args.tx t c.args.vote d c.base.result.now c.committed.result.now.tables c.conflict.result (sym c.changes_nothing.ensures ∙ c.if-changes_nothing.false) c.base.ensures.value c.committed.ensures.tables c.conflict.ensures in
    c.commit_made.ensures.steps first s v.session t d.between (to.0, to.1 ∙ c.in-None.is) d.made

pub returns-in-None-clause-shows : goal.returns-in-None-clause-shows
returns-in-None-clause-shows g c first s t d =
    let w = c.args.self.now in
    let v = c.args.txn.now in
    let to = decides-to first w s v c.args.tx t c.args.vote d c.base.result.now c.committed.result.now.tables c.conflict.result (sym c.changes_nothing.ensures ∙ c.if-changes_nothing.false) c.base.ensures.value c.committed.ensures.tables c.conflict.ensures in
    shows-decided s v c.args.tx t c.commit_made.result d.shown d.between.is d.between.in_phase (commit-state s v.session c.args.tx t d.between.is d.between.in_phase (to.0, to.1 ∙ c.in-None.is))

-- ITS RECORD HAS A SPELLING, or there is none

pub returns-then-changes_nothing-clause-spelled : goal.returns-then-changes_nothing-clause-spelled
returns-then-changes_nothing-clause-spelled g c first s t d =
    let w = c.args.self.now in
    let v = c.args.txn.now in
    let same = changes-told first w s v c.args.tx t c.args.vote d true (sym c.changes_nothing.ensures ∙ c.if-changes_nothing.true) in
    as-spelled (writes s (steps.Decide v.session)) [] (nothing-writes s v.session c.args.tx t d.between.is d.between.in_phase same) tt

pub returns-in-Some-clause-spelled : goal.returns-in-Some-clause-spelled
returns-in-Some-clause-spelled g c first s t d =
    let w = c.args.self.now in
    let v = c.args.txn.now in
    let to = decides-to first w s v c.args.tx t c.args.vote d c.base.result.now c.committed.result.now.tables c.conflict.result (sym c.changes_nothing.ensures ∙ c.if-changes_nothing.false) c.base.ensures.value c.committed.ensures.tables c.conflict.ensures in
    c.refuse_conflict.ensures.spelled first s t d.between (to.0, to.1 ∙ c.in-Some.is)

pub returns-in-None-clause-spelled : goal.returns-in-None-clause-spelled
returns-in-None-clause-spelled g c first s t d =
    let w = c.args.self.now in
    let v = c.args.txn.now in
    let to = decides-to first w s v c.args.tx t c.args.vote d c.base.result.now c.committed.result.now.tables c.conflict.result (sym c.changes_nothing.ensures ∙ c.if-changes_nothing.false) c.base.ensures.value c.committed.ensures.tables c.conflict.ensures in
    c.commit_made.ensures.spelled first s v.session t d.between (to.0, to.1 ∙ c.in-None.is) d.made
