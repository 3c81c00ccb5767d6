use Rattle.std.proofs.Common.{◌+◌, refl, sym, ◌∙◌, ap}
use Rattle.dl_base.specs.declared.answer.Answer.TheVariants as answers
use Rattle.dl_base.specs.declared.answer.Refusal.TheVariants as reasons
use Rattle.dl_base.specs.declared.step.Step.TheVariants as steps
use Rattle.meaning_areas.specs.Full.{draw_full}
use Rattle.sys_core.proofs.Beginning.{begin-full, begin-memory, begins, begins-shown, in-transaction, left-is, rows-fit}
use Rattle.sys_core.proofs.Knowing.{none-of, some-of}
use Rattle.sys_core.proofs.Refused.{leaves-in-memory, leaves-shown}
use Rattle.sys_core.specs.Seated.{shown_by}
use Rattle.sys_core.proofs.engine.Engine.begin.Goals as goal

-- a session that has one
pub returns-in-Some-clause-steps : goal.returns-in-Some-clause-steps
returns-in-Some-clause-steps c first s is has =
    let a = c.args.txn.now in
    let tx = c.in-Some.tx in
    let k = some-of s a tx has (sym c.in-Some.ensures) in
    leaves-in-memory first s (steps.Begin a.session) (answers.Refused (reasons.InTransaction tx)) (in-transaction s a.session tx k.0 k.1.of) c.args.self.now is

pub returns-in-Some-clause-shows : goal.returns-in-Some-clause-shows
returns-in-Some-clause-shows c first s is has =
    let a = c.args.txn.now in
    let tx = c.in-Some.tx in
    let k = some-of s a tx has (sym c.in-Some.ensures) in
    leaves-shown first s (steps.Begin a.session) (answers.Refused (reasons.InTransaction tx)) (in-transaction s a.session tx k.0 k.1.of) a has

-- no number is left
pub returns-in-Err-clause-steps : goal.returns-in-Err-clause-steps
returns-in-Err-clause-steps c first s is has =
    let a = c.args.txn.now in
    begin-full first c.args.self.now s a.session is (none-of s a has (sym c.tx.ensures ∙ c.in_default.is)) c.in-Err.fault c.from.result c.in-Err.ensures.full c.from.ensures

pub returns-in-Err-clause-shows : goal.returns-in-Err-clause-shows
returns-in-Err-clause-shows c first s is has = record { shown = tt; memory = λ e. refl }

-- it begins
pub sit_down-requires-clause-vacant : goal.sit_down-requires-clause-vacant
sit_down-requires-clause-vacant c =
    let a = c.args.txn.now in
    let s = c.requires.1 in
    let has = c.requires.3 in
    has ∙ ap (shown_by a.session) (none-of s a has (sym c.tx.ensures ∙ c.in_default.is))

pub sit_down-requires-clause-rows : goal.sit_down-requires-clause-rows
sit_down-requires-clause-rows c = rows-fit c.requires.0 c.args.self.now c.requires.1 c.requires.2

pub sit_down-requires-clause-left : goal.sit_down-requires-clause-left
sit_down-requires-clause-left c = left-is (draw_full (c.args.self.now.owners.store.drawn + 1)) c.in-Ok.ensures.full

pub returns-in-Ok-sit_down-clause-steps : goal.returns-in-Ok-sit_down-clause-steps
returns-in-Ok-sit_down-clause-steps c first s is has =
    let w = c.args.self.now in
    let a = c.args.txn.now in
    begins c.each_step_leads_on.ensures.kept c.claims_behind_steps_of_a_session.ensures.begin c.seats_count_together.ensures.put first w s a.session is (none-of s a has (sym c.tx.ensures ∙ c.in_default.is))
    (left-is (draw_full (w.owners.store.drawn + 1)) c.in-Ok.ensures.full) c.sit_down.new.self c.in-Ok.tx c.in-Ok.ensures.value c.in-Ok-sit_down.ensures.ok

pub returns-in-Ok-sit_down-clause-shows : goal.returns-in-Ok-sit_down-clause-shows
returns-in-Ok-sit_down-clause-shows c first s is has =
    let w = c.args.self.now in
    let a = c.args.txn.now in
    begins-shown c.each_step_leads_on.ensures.kept c.claims_behind_steps_of_a_session.ensures.begin c.seats_count_together.ensures.put first w s a.session is (none-of s a has (sym c.tx.ensures ∙ c.in_default.is))
    (left-is (draw_full (w.owners.store.drawn + 1)) c.in-Ok.ensures.full) c.sit_down.new.self c.in-Ok.tx c.in-Ok.ensures.value c.in-Ok-sit_down.ensures.ok a c.sit_down.new.txn refl c.in-Ok-sit_down.ensures.begun

-- there is no memory
pub returns-in-Err-sit_down-clause-steps : goal.returns-in-Err-sit_down-clause-steps
returns-in-Err-sit_down-clause-steps c first s is has =
    let a = c.args.txn.now in
    begin-memory first c.args.self.now s a.session is (none-of s a has (sym c.tx.ensures ∙ c.in_default.is)) c.sit_down.new.self c.in-Err-sit_down.ensures.err

pub returns-in-Err-sit_down-clause-shows : goal.returns-in-Err-sit_down-clause-shows
returns-in-Err-sit_down-clause-shows c first s is has = record { shown = tt; memory = λ e. c.in-Err-sit_down.ensures.vacant }

pub returns-in-Err-sit_down-clause-memory : goal.returns-in-Err-sit_down-clause-memory
returns-in-Err-sit_down-clause-memory c e = (sym c.tx.ensures ∙ c.in_default.is, left-is (draw_full (c.args.self.now.owners.store.drawn + 1)) c.in-Ok.ensures.full)
