use Rattle.std.proofs.Common.{◌≡◌, not, Result, Err, Option, Some, refl, sym, ◌∙◌, ap, subst, rules}
use Rattle.dl_base.specs.declared.answer.Answer.{Answer}
use Rattle.dl_base.specs.declared.answer.Answer.TheVariants as answers
use Rattle.dl_base.specs.declared.answer.Refusal.{Refusal}
use Rattle.dl_base.specs.declared.answer.Refusal.TheVariants as reasons
use Rattle.dl_base.specs.declared.fault.StepFault.{StepFault}
use Rattle.dl_base.specs.declared.fault.StepFault.TheVariants as faults
use Rattle.dl_base.specs.declared.step.Phase.{Phase}
use Rattle.dl_base.specs.declared.step.Phase.TheVariants as phases
use Rattle.dl_base.specs.declared.step.Step.TheVariants as steps
use Rattle.meaning_sql.specs.declared.Context.{Context}
use Rattle.meaning_system.specs.State.{is_active}
use Rattle.sys_core.proofs.Knowing.{none-of, some-of}
use Rattle.sys_core.proofs.Refused.{leaves-in-memory, leaves-shown, refused-none-statement, refused-phase-statement}
use Rattle.sys_core.proofs.Seating.{seat-phase}
use Rattle.sys_core.proofs.Stating.{Laws, answered-shows, answered-steps, denied-shows, denied-steps, memory-shows, memory-steps, undone}
use Rattle.sys_core.specs.Claiming.{EndsClaim}
use Rattle.sys_core.specs.Steps.{Shows, StepsInMemory}
use Rattle.sys_core.proofs.engine.Engine.statement.Goals as goal

-- it has no transaction

pub returns-in_default-clause-steps : goal.returns-in_default-clause-steps
returns-in_default-clause-steps c first s is has =
    let v = c.args.txn.now in
    let none = none-of s v has (sym c.tx.ensures ∙ c.in_default.is) in
    leaves-in-memory first s (steps.Statement v.session c.args.stmt.now) (answers.Refused reasons.NoTransaction) (refused-none-statement s v.session none c.args.stmt.now) c.args.self.now is

pub returns-in_default-clause-shows : goal.returns-in_default-clause-shows
returns-in_default-clause-shows c first s is has =
    let v = c.args.txn.now in
    let none = none-of s v has (sym c.tx.ensures ∙ c.in_default.is) in
    leaves-shown first s (steps.Statement v.session c.args.stmt.now) (answers.Refused reasons.NoTransaction) (refused-none-statement s v.session none c.args.stmt.now) v has

-- it is not active

pub returns-in_default-phase-clause-steps : goal.returns-in_default-phase-clause-steps
returns-in_default-phase-clause-steps c first s is has =
    let w = c.args.self.now in
    let v = c.args.txn.now in
    let tx = c.in-Some.tx in
    let know = some-of s v tx has (sym c.in-Some.ensures) in
    let leaves = refused-phase-statement s v.session tx know.0 know.1.of c.args.stmt.now c.phase.result (sym (seat-phase s w.seats tx know.0 is.seats know.1.there) ∙ sym c.phase.ensures) c.in_default-phase.not-Active in
    leaves-in-memory first s (steps.Statement v.session c.args.stmt.now) (answers.Refused (reasons.WrongPhase c.phase.result)) leaves w is

pub returns-in_default-phase-clause-shows : goal.returns-in_default-phase-clause-shows
returns-in_default-phase-clause-shows c first s is has =
    let w = c.args.self.now in
    let v = c.args.txn.now in
    let tx = c.in-Some.tx in
    let know = some-of s v tx has (sym c.in-Some.ensures) in
    let leaves = refused-phase-statement s v.session tx know.0 know.1.of c.args.stmt.now c.phase.result (sym (seat-phase s w.seats tx know.0 is.seats know.1.there) ∙ sym c.phase.ensures) c.in_default-phase.not-Active in
    leaves-shown first s (steps.Statement v.session c.args.stmt.now) (answers.Refused (reasons.WrongPhase c.phase.result)) leaves v has

-- there is no memory

pub returns-in_err-context-clause-steps : goal.returns-in_err-context-clause-steps
returns-in_err-context-clause-steps c first s is has =
    let w = c.args.self.now in
    let v = c.args.txn.now in
    let e : c.from_residual.result ≡ Err faults.Memory = search rules in
    subst (λ (r : Result Answer StepFault). StepsInMemory first (steps.Statement v.session c.args.stmt.now) s w w r) (sym e)
    (memory-steps first s w is v c.args.stmt.now w faults.Memory refl (record { claims = refl; same = refl }))

pub returns-in_err-context-clause-shows : goal.returns-in_err-context-clause-shows
returns-in_err-context-clause-shows c first s is has =
    let v = c.args.txn.now in
    let e : c.from_residual.result ≡ Err faults.Memory = search rules in
    subst (λ (r : Result Answer StepFault). Shows (steps.Statement v.session c.args.stmt.now) s v v r) (sym e) (memory-shows first s c.args.self.now is v c.args.stmt.now v faults.Memory refl)

pub returns-in_err-evaluate-clause-steps : goal.returns-in_err-evaluate-clause-steps
returns-in_err-evaluate-clause-steps c first s is has =
    let w = c.args.self.now in
    let v = c.args.txn.now in
    let e : c.from_residual-in_err-evaluate.result ≡ Err faults.Memory = search rules in
    subst (λ (r : Result Answer StepFault). StepsInMemory first (steps.Statement v.session c.args.stmt.now) s w w r) (sym e)
    (memory-steps first s w is v c.args.stmt.now w faults.Memory refl (record { claims = refl; same = refl }))

pub returns-in_err-evaluate-clause-shows : goal.returns-in_err-evaluate-clause-shows
returns-in_err-evaluate-clause-shows c first s is has =
    let v = c.args.txn.now in
    let e : c.from_residual-in_err-evaluate.result ≡ Err faults.Memory = search rules in
    subst (λ (r : Result Answer StepFault). Shows (steps.Statement v.session c.args.stmt.now) s v c.evaluate.new.self r) (sym e)
    (memory-shows first s c.args.self.now is v c.args.stmt.now c.evaluate.new.self faults.Memory c.in_err-evaluate.ensures.err)

-- what an evaluation asks

pub evaluate-requires-clause-begun : goal.evaluate-requires-clause-begun
evaluate-requires-clause-begun c = sym c.in-Some.ensures ∙ sym (ap (λ (x : Context). Some x.tx) c.in_ok-context.ensures)

pub evaluate-requires-clause-active : goal.evaluate-requires-clause-active
evaluate-requires-clause-active c =
    let s = c.requires.stands.1 in
    let is = c.requires.stands.2 in
    let w = c.args.self.now in
    let tx = c.in-Some.tx in
    let know = some-of s c.args.txn.now tx c.requires.stands.3 (sym c.in-Some.ensures) in
    let active : know.0.phase ≡ phases.Active = sym (seat-phase s w.seats tx know.0 is.seats know.1.there) ∙ sym c.in-Active.ensures in
    know.1.made ∙ ap (λ (p : Phase). not (is_active p)) active

-- it is answered

pub returns-in-Ok-None-clause-steps : goal.returns-in-Ok-None-clause-steps
returns-in-Ok-None-clause-steps c first s is has =
    let laws : Laws = record {
      leads = c.each_step_leads_on.ensures.kept;
      busy = c.claims_answer_as_a_search_does.ensures.busy;
      linked = c.claims_answer_as_a_search_does.ensures.linked;
      claims = c.claims_behind_steps_of_a_session.ensures.statement;
      keeps = c.claims_behind_steps_of_a_session.ensures.kept;
      accepted = c.claims_behind_steps_of_a_session.ensures.accepted;
      evaluation = c.an_evaluation_is_the_machines.ensures;
      put = c.seats_count_together.ensures.put;
    } in
    let w = c.args.self.now in
    let v = c.args.txn.now in
    let tx = c.in-Some.tx in
    let know = some-of s v tx has (sym c.in-Some.ensures) in
    let active : know.0.phase ≡ phases.Active = sym (seat-phase s w.seats tx know.0 is.seats know.1.there) ∙ sym c.in-Active.ensures in
    answered-steps first s w is v c.args.stmt.now laws tx know.0 know.1 active c.requires.plain c.in_ok-context.context c.in_ok-context.ensures c.evaluate.new.self c.in_ok-evaluate.ensures.ok c.claim.new.self c.taken.result c.taken.ensures.answer
    (subst (λ (o : Option Refusal). EndsClaim w c.claim.new.self tx c.evaluate.new.self o) c.in-Ok-None.field-0-is c.in-Ok-None.ensures.ends)

pub returns-in-Ok-None-clause-shows : goal.returns-in-Ok-None-clause-shows
returns-in-Ok-None-clause-shows c first s is has =
    let laws : Laws = record {
      leads = c.each_step_leads_on.ensures.kept;
      busy = c.claims_answer_as_a_search_does.ensures.busy;
      linked = c.claims_answer_as_a_search_does.ensures.linked;
      claims = c.claims_behind_steps_of_a_session.ensures.statement;
      keeps = c.claims_behind_steps_of_a_session.ensures.kept;
      accepted = c.claims_behind_steps_of_a_session.ensures.accepted;
      evaluation = c.an_evaluation_is_the_machines.ensures;
      put = c.seats_count_together.ensures.put;
    } in
    let w = c.args.self.now in
    let v = c.args.txn.now in
    let tx = c.in-Some.tx in
    let know = some-of s v tx has (sym c.in-Some.ensures) in
    let active : know.0.phase ≡ phases.Active = sym (seat-phase s w.seats tx know.0 is.seats know.1.there) ∙ sym c.in-Active.ensures in
    answered-shows first s w is v c.args.stmt.now laws tx know.0 know.1 active c.requires.plain c.in_ok-context.context c.in_ok-context.ensures c.evaluate.new.self c.in_ok-evaluate.ensures.ok c.claim.new.self c.taken.result c.taken.new.txn c.taken.ensures.stands
    (subst (λ (o : Option Refusal). EndsClaim w c.claim.new.self tx c.evaluate.new.self o) c.in-Ok-None.field-0-is c.in-Ok-None.ensures.ends)

-- its claim is refused

pub returns-in-Ok-Some-clause-steps : goal.returns-in-Ok-Some-clause-steps
returns-in-Ok-Some-clause-steps c first s is has =
    let laws : Laws = record {
      leads = c.each_step_leads_on.ensures.kept;
      busy = c.claims_answer_as_a_search_does.ensures.busy;
      linked = c.claims_answer_as_a_search_does.ensures.linked;
      claims = c.claims_behind_steps_of_a_session.ensures.statement;
      keeps = c.claims_behind_steps_of_a_session.ensures.kept;
      accepted = c.claims_behind_steps_of_a_session.ensures.accepted;
      evaluation = c.an_evaluation_is_the_machines.ensures;
      put = c.seats_count_together.ensures.put;
    } in
    let w = c.args.self.now in
    let v = c.args.txn.now in
    let tx = c.in-Some.tx in
    let know = some-of s v tx has (sym c.in-Some.ensures) in
    let active : know.0.phase ≡ phases.Active = sym (seat-phase s w.seats tx know.0 is.seats know.1.there) ∙ sym c.in-Active.ensures in
    denied-steps first s w is v c.args.stmt.now laws tx know.0 know.1 active c.requires.plain c.in_ok-context.context c.in_ok-context.ensures c.evaluate.new.self c.in_ok-evaluate.ensures.ok c.claim.new.self c.in-Ok-Some.refusal
    (subst (λ (o : Option Refusal). EndsClaim w c.claim.new.self tx c.evaluate.new.self o) c.in-Ok-Some.field-0-is c.in-Ok-Some.ensures.ends)

pub returns-in-Ok-Some-clause-shows : goal.returns-in-Ok-Some-clause-shows
returns-in-Ok-Some-clause-shows c first s is has =
    let laws : Laws = record {
      leads = c.each_step_leads_on.ensures.kept;
      busy = c.claims_answer_as_a_search_does.ensures.busy;
      linked = c.claims_answer_as_a_search_does.ensures.linked;
      claims = c.claims_behind_steps_of_a_session.ensures.statement;
      keeps = c.claims_behind_steps_of_a_session.ensures.kept;
      accepted = c.claims_behind_steps_of_a_session.ensures.accepted;
      evaluation = c.an_evaluation_is_the_machines.ensures;
      put = c.seats_count_together.ensures.put;
    } in
    let w = c.args.self.now in
    let v = c.args.txn.now in
    let tx = c.in-Some.tx in
    let know = some-of s v tx has (sym c.in-Some.ensures) in
    let active : know.0.phase ≡ phases.Active = sym (seat-phase s w.seats tx know.0 is.seats know.1.there) ∙ sym c.in-Active.ensures in
    denied-shows first s w is v c.args.stmt.now laws tx know.0 know.1 active c.requires.plain c.in_ok-context.context c.in_ok-context.ensures c.evaluate.new.self c.in_ok-evaluate.ensures.ok c.claim.new.self c.in-Ok-Some.refusal c.back.new.self c.back.ensures
    (subst (λ (o : Option Refusal). EndsClaim w c.claim.new.self tx c.evaluate.new.self o) c.in-Ok-Some.field-0-is c.in-Ok-Some.ensures.ends)

-- there is no memory for its claim

pub returns-clause-steps : goal.returns-clause-steps
returns-clause-steps c first s is has = memory-steps first s c.args.self.now is c.args.txn.now c.args.stmt.now c.claim.new.self faults.Memory refl c.in-Err.ensures.memory

pub returns-clause-shows : goal.returns-clause-shows
returns-clause-shows c first s is has =
    let laws : Laws = record {
      leads = c.each_step_leads_on.ensures.kept;
      busy = c.claims_answer_as_a_search_does.ensures.busy;
      linked = c.claims_answer_as_a_search_does.ensures.linked;
      claims = c.claims_behind_steps_of_a_session.ensures.statement;
      keeps = c.claims_behind_steps_of_a_session.ensures.kept;
      accepted = c.claims_behind_steps_of_a_session.ensures.accepted;
      evaluation = c.an_evaluation_is_the_machines.ensures;
      put = c.seats_count_together.ensures.put;
    } in
    let w = c.args.self.now in
    let v = c.args.txn.now in
    let tx = c.in-Some.tx in
    let know = some-of s v tx has (sym c.in-Some.ensures) in
    let active : know.0.phase ≡ phases.Active = sym (seat-phase s w.seats tx know.0 is.seats know.1.there) ∙ sym c.in-Active.ensures in
    memory-shows first s w is v c.args.stmt.now c.undo.new.self faults.Memory (undone first s w is v c.args.stmt.now laws tx know.0 know.1 active c.requires.plain c.in_ok-context.context c.in_ok-context.ensures c.evaluate.new.self c.in_ok-evaluate.ensures.ok c.undo.new.self c.undo.ensures)

-- want of memory comes of an active transaction

pub returns-in_err-context-clause-memory : goal.returns-in_err-context-clause-memory
returns-in_err-context-clause-memory c e = (c.in-Some.tx, sym c.in-Some.ensures, sym c.in-Active.ensures)

pub returns-in_err-evaluate-clause-memory : goal.returns-in_err-evaluate-clause-memory
returns-in_err-evaluate-clause-memory c e = (c.in-Some.tx, sym c.in-Some.ensures, sym c.in-Active.ensures)

pub returns-clause-memory : goal.returns-clause-memory
returns-clause-memory c e = (c.in-Some.tx, sym c.in-Some.ensures, sym c.in-Active.ensures)
