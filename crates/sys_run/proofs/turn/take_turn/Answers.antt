use Rattle.std.proofs.Common.{true, false, None, Some, refl, sym, ap, arith}
use Rattle.std.proofs.lemmas.Grind.{common_steps}
use Rattle.dl_base.proofs.Moments.{moments_none}
use Rattle.dl_base.specs.declared.fault.StepFault.TheVariants as faults
use Rattle.dl_base.specs.declared.step.Step.TheVariants as steps
use Rattle.meaning_script.specs.Expansion.{answered, given, meant, silent}
use Rattle.sys_run.proofs.Images.{Laws}
use Rattle.sys_run.proofs.Lines.{silent-stands}
use Rattle.sys_run.proofs.Taking.{given-tells, handed, its-step, no-device, no-fault, no-full, on-err, same-fault, step-filled, step-history, step-turned, steps-clean, steps-device, tell-history, tell-turned}
use Rattle.sys_run.proofs.turn.take_turn.Goals as goal

pub next_of-requires : goal.next_of-requires
next_of-requires g c = grind (arith, common_steps)

pub returns-in_err-step : goal.returns-in_err-step
returns-in_err-step g c =
    let result = c.from_residual.result in
    let fails = handed result faults.Memory c.from_residual.ensures in
    record {
      turned = on-err result faults.Memory _ fails;
      history = λ first lists before r l more stands is sees. moments_none _ _;
      full = λ full full_is. no-full result full fails full_is;
      device = no-device result fails;
      clean = on-err result faults.Memory _ fails;
    }

pub do_step-requires : goal.do_step-requires
do_step-requires g c =
    let O = g.B.Bench.outside in
    let a = c.args in
    let (first, lists, before, r, l, more, stands, is, sees) = c.requires.stands in
    record { ready = stands.ready; of = its-step a.number a.line.now a.answers.now first lists before r l more a.engine.now a.sessions.now (O a.bench.now) stands is a.waiting.now sees c.in-Do.step (meant c.in_ok-step.field-0) (c.in_ok-step.ensures first r stands.is stands.sessions) (ap meant c.in-Do.is); stands = (first, r.state, stands.is, stands.sessions.shown) }

pub returns-in_err-answer-in-Do : goal.returns-in_err-answer-in-Do
returns-in_err-answer-in-Do g c =
    let O = g.B.Bench.outside in
    let a = c.args in
    let w1 = c.what_is_written_is_read.ensures in
    let s1 = c.stopped_steps_stand.ensures in
    let laws : Laws = record { folded = w1.folded; stand = w1.stand; before = s1.before; stopped = s1.stopped; whole = s1.whole } in
    let result = c.from_residual-in_err-answer-in-Do.result in
    let fault = c.in_err-answer-in-Do.field-0.0 in
    let fails = handed result fault c.from_residual-in_err-answer-in-Do.ensures in
    record {
      turned = on-err result fault _ fails;
      history = λ first lists before r l more stands is sees. step-history a.number a.line.now a.answers.now first lists before r l more a.engine.now a.sessions.now (O a.bench.now) stands is a.waiting.now sees c.in-Do.step (meant c.in_ok-step.field-0) (c.in_ok-step.ensures first r stands.is stands.sessions) (ap meant c.in-Do.is)
          laws c.do_step.new.engine (O c.do_step.new.bench) c.do_step.result (c.do_step.ensures.steps first r.state stands.is stands.sessions.shown) (λ no. c.do_step.ensures.spelled no first r.state stands.is stands.sessions.shown);
      full = λ full full_is first lists before r l more stands is sees. step-filled a.number a.line.now a.answers.now first lists before r l more a.engine.now a.sessions.now (O a.bench.now) stands is a.waiting.now sees c.in-Do.step (meant c.in_ok-step.field-0) (c.in_ok-step.ensures first r stands.is stands.sessions) (ap meant c.in-Do.is)
          laws c.do_step.new.engine (O c.do_step.new.bench) c.do_step.result full (same-fault c.do_step.result result fault (faults.Full full) c.in_err-answer-in-Do.was fails full_is) (c.do_step.ensures.steps first r.state stands.is stands.sessions.shown) (λ no. c.do_step.ensures.spelled no first r.state stands.is stands.sessions.shown);
      device = λ device_is.
          let (first, lists, before, r, l, more, stands, is, sees) = c.requires.stands in
          steps-device first c.in-Do.step r.state a.engine.now c.do_step.new.engine c.do_step.result (O a.bench.now) (O c.do_step.new.bench) (same-fault c.do_step.result result fault faults.Device c.in_err-answer-in-Do.was fails device_is) (c.do_step.ensures.steps first r.state stands.is stands.sessions.shown);
      clean = on-err result fault _ fails;
    }

pub returns-in_err-put-in-Do : goal.returns-in_err-put-in-Do
returns-in_err-put-in-Do g c =
    let O = g.B.Bench.outside in
    let a = c.args in
    let w1 = c.what_is_written_is_read.ensures in
    let s1 = c.stopped_steps_stand.ensures in
    let laws : Laws = record { folded = w1.folded; stand = w1.stand; before = s1.before; stopped = s1.stopped; whole = s1.whole } in
    let result = c.from_residual-in_err-put-in-Do.result in
    let fails = handed result faults.Memory c.from_residual-in_err-put-in-Do.ensures in
    record {
      turned = on-err result faults.Memory _ fails;
      history = λ first lists before r l more stands is sees. step-history a.number a.line.now a.answers.now first lists before r l more a.engine.now a.sessions.now (O a.bench.now) stands is a.waiting.now sees c.in-Do.step (meant c.in_ok-step.field-0) (c.in_ok-step.ensures first r stands.is stands.sessions) (ap meant c.in-Do.is)
          laws c.do_step.new.engine (O c.do_step.new.bench) c.do_step.result (c.do_step.ensures.steps first r.state stands.is stands.sessions.shown) (λ no. c.do_step.ensures.spelled no first r.state stands.is stands.sessions.shown);
      full = λ full full_is. no-full result full fails full_is;
      device = no-device result fails;
      clean = on-err result faults.Memory _ fails;
    }

pub returns-in_ok-put-in-Do : goal.returns-in_ok-put-in-Do
returns-in_ok-put-in-Do g c =
    let O = g.B.Bench.outside in
    let a = c.args in
    let w1 = c.what_is_written_is_read.ensures in
    let s1 = c.stopped_steps_stand.ensures in
    let laws : Laws = record { folded = w1.folded; stand = w1.stand; before = s1.before; stopped = s1.stopped; whole = s1.whole } in
    record {
      turned = λ first lists before r l more stands is sees. step-turned a.number a.line.now a.answers.now first lists before r l more a.engine.now a.sessions.now (O a.bench.now) stands is a.waiting.now sees c.in-Do.step (meant c.in_ok-step.field-0) (c.in_ok-step.ensures first r stands.is stands.sessions) (ap meant c.in-Do.is)
          laws c.each_step_leads_on.ensures.kept c.restores_go_on_with_the_history.ensures c.do_step.new.engine (O c.do_step.new.bench) c.do_step.result c.in_ok-answer-in-Do.answer c.in_ok-answer-in-Do.was (c.do_step.ensures.steps first r.state stands.is stands.sessions.shown)
          (λ no. c.do_step.ensures.spelled no first r.state stands.is stands.sessions.shown)
          c.do_step.new.txns (c.do_step.ensures.shown first r.state stands.is stands.sessions.shown) c.do_step.ensures.count c.put.new.answers c.in_ok-put-in-Do.ensures;
      history = λ first lists before r l more stands is sees. step-history a.number a.line.now a.answers.now first lists before r l more a.engine.now a.sessions.now (O a.bench.now) stands is a.waiting.now sees c.in-Do.step (meant c.in_ok-step.field-0) (c.in_ok-step.ensures first r stands.is stands.sessions) (ap meant c.in-Do.is)
          laws c.do_step.new.engine (O c.do_step.new.bench) c.do_step.result (c.do_step.ensures.steps first r.state stands.is stands.sessions.shown) (λ no. c.do_step.ensures.spelled no first r.state stands.is stands.sessions.shown);
      full = λ full full_is. no-fault false (faults.Full full) full_is;
      device = no-fault false faults.Device;
      clean =
          let (first, lists, before, r, l, more, stands, is, sees) = c.requires.stands in
          steps-clean first c.in-Do.step r.state a.engine.now c.do_step.new.engine c.do_step.result c.in_ok-answer-in-Do.answer (O a.bench.now) (O c.do_step.new.bench) c.in_ok-answer-in-Do.was (c.do_step.ensures.steps first r.state stands.is stands.sessions.shown);
    }

pub do_statement-requires : goal.do_statement-requires
do_statement-requires g c =
    let O = g.B.Bench.outside in
    let a = c.args in
    let (first, lists, before, r, l, more, stands, is, sees) = c.requires.stands in
    record { ready = stands.ready; of = its-step a.number a.line.now a.answers.now first lists before r l more a.engine.now a.sessions.now (O a.bench.now) stands is a.waiting.now sees (steps.Statement c.in-Statement.session c.in-Statement.stmt.now) (meant c.in_ok-step.field-0) (c.in_ok-step.ensures first r stands.is stands.sessions) (ap meant c.in-Statement.is); stands = (first, r.state, stands.is, stands.sessions.shown) }

pub returns-in_err-answer-in-Statement : goal.returns-in_err-answer-in-Statement
returns-in_err-answer-in-Statement g c =
    let O = g.B.Bench.outside in
    let a = c.args in
    let w1 = c.what_is_written_is_read.ensures in
    let s1 = c.stopped_steps_stand.ensures in
    let laws : Laws = record { folded = w1.folded; stand = w1.stand; before = s1.before; stopped = s1.stopped; whole = s1.whole } in
    let result = c.from_residual-in_err-answer-in-Statement.result in
    let fault = c.in_err-answer-in-Statement.field-0.0 in
    let fails = handed result fault c.from_residual-in_err-answer-in-Statement.ensures in
    record {
      turned = on-err result fault _ fails;
      history = λ first lists before r l more stands is sees. step-history a.number a.line.now a.answers.now first lists before r l more a.engine.now a.sessions.now (O a.bench.now) stands is a.waiting.now sees (steps.Statement c.in-Statement.session c.in-Statement.stmt.now) (meant c.in_ok-step.field-0) (c.in_ok-step.ensures first r stands.is stands.sessions) (ap meant c.in-Statement.is)
          laws c.do_statement.new.engine (O c.do_statement.new.bench) c.do_statement.result (c.do_statement.ensures.steps first r.state stands.is stands.sessions.shown) (λ no none. c.do_statement.ensures.spelled first r.state stands.is stands.sessions.shown);
      full = λ full full_is first lists before r l more stands is sees. step-filled a.number a.line.now a.answers.now first lists before r l more a.engine.now a.sessions.now (O a.bench.now) stands is a.waiting.now sees (steps.Statement c.in-Statement.session c.in-Statement.stmt.now) (meant c.in_ok-step.field-0) (c.in_ok-step.ensures first r stands.is stands.sessions) (ap meant c.in-Statement.is)
          laws c.do_statement.new.engine (O c.do_statement.new.bench) c.do_statement.result full (same-fault c.do_statement.result result fault (faults.Full full) c.in_err-answer-in-Statement.was fails full_is) (c.do_statement.ensures.steps first r.state stands.is stands.sessions.shown) (λ no none. c.do_statement.ensures.spelled first r.state stands.is stands.sessions.shown);
      device = λ device_is.
          let (first, lists, before, r, l, more, stands, is, sees) = c.requires.stands in
          steps-device first (steps.Statement c.in-Statement.session c.in-Statement.stmt.now) r.state a.engine.now c.do_statement.new.engine c.do_statement.result (O a.bench.now) (O c.do_statement.new.bench) (same-fault c.do_statement.result result fault faults.Device c.in_err-answer-in-Statement.was fails device_is) (c.do_statement.ensures.steps first r.state stands.is stands.sessions.shown);
      clean = on-err result fault _ fails;
    }

pub returns-in_err-put-in-Statement : goal.returns-in_err-put-in-Statement
returns-in_err-put-in-Statement g c =
    let O = g.B.Bench.outside in
    let a = c.args in
    let w1 = c.what_is_written_is_read.ensures in
    let s1 = c.stopped_steps_stand.ensures in
    let laws : Laws = record { folded = w1.folded; stand = w1.stand; before = s1.before; stopped = s1.stopped; whole = s1.whole } in
    let result = c.from_residual-in_err-put-in-Statement.result in
    let fails = handed result faults.Memory c.from_residual-in_err-put-in-Statement.ensures in
    record {
      turned = on-err result faults.Memory _ fails;
      history = λ first lists before r l more stands is sees. step-history a.number a.line.now a.answers.now first lists before r l more a.engine.now a.sessions.now (O a.bench.now) stands is a.waiting.now sees (steps.Statement c.in-Statement.session c.in-Statement.stmt.now) (meant c.in_ok-step.field-0) (c.in_ok-step.ensures first r stands.is stands.sessions) (ap meant c.in-Statement.is)
          laws c.do_statement.new.engine (O c.do_statement.new.bench) c.do_statement.result (c.do_statement.ensures.steps first r.state stands.is stands.sessions.shown) (λ no none. c.do_statement.ensures.spelled first r.state stands.is stands.sessions.shown);
      full = λ full full_is. no-full result full fails full_is;
      device = no-device result fails;
      clean = on-err result faults.Memory _ fails;
    }

pub returns-in_ok-put-in-Statement : goal.returns-in_ok-put-in-Statement
returns-in_ok-put-in-Statement g c =
    let O = g.B.Bench.outside in
    let a = c.args in
    let w1 = c.what_is_written_is_read.ensures in
    let s1 = c.stopped_steps_stand.ensures in
    let laws : Laws = record { folded = w1.folded; stand = w1.stand; before = s1.before; stopped = s1.stopped; whole = s1.whole } in
    record {
      turned = λ first lists before r l more stands is sees. step-turned a.number a.line.now a.answers.now first lists before r l more a.engine.now a.sessions.now (O a.bench.now) stands is a.waiting.now sees (steps.Statement c.in-Statement.session c.in-Statement.stmt.now) (meant c.in_ok-step.field-0) (c.in_ok-step.ensures first r stands.is stands.sessions) (ap meant c.in-Statement.is)
          laws c.each_step_leads_on.ensures.kept c.restores_go_on_with_the_history.ensures c.do_statement.new.engine (O c.do_statement.new.bench) c.do_statement.result c.in_ok-answer-in-Statement.answer c.in_ok-answer-in-Statement.was (c.do_statement.ensures.steps first r.state stands.is stands.sessions.shown)
          (λ no none. c.do_statement.ensures.spelled first r.state stands.is stands.sessions.shown)
          c.do_statement.new.txns (c.do_statement.ensures.shown first r.state stands.is stands.sessions.shown) c.do_statement.ensures.count c.put-in-Statement.new.answers c.in_ok-put-in-Statement.ensures;
      history = λ first lists before r l more stands is sees. step-history a.number a.line.now a.answers.now first lists before r l more a.engine.now a.sessions.now (O a.bench.now) stands is a.waiting.now sees (steps.Statement c.in-Statement.session c.in-Statement.stmt.now) (meant c.in_ok-step.field-0) (c.in_ok-step.ensures first r stands.is stands.sessions) (ap meant c.in-Statement.is)
          laws c.do_statement.new.engine (O c.do_statement.new.bench) c.do_statement.result (c.do_statement.ensures.steps first r.state stands.is stands.sessions.shown) (λ no none. c.do_statement.ensures.spelled first r.state stands.is stands.sessions.shown);
      full = λ full full_is. no-fault false (faults.Full full) full_is;
      device = no-fault false faults.Device;
      clean =
          let (first, lists, before, r, l, more, stands, is, sees) = c.requires.stands in
          steps-clean first (steps.Statement c.in-Statement.session c.in-Statement.stmt.now) r.state a.engine.now c.do_statement.new.engine c.do_statement.result c.in_ok-answer-in-Statement.answer (O a.bench.now) (O c.do_statement.new.bench) c.in_ok-answer-in-Statement.was (c.do_statement.ensures.steps first r.state stands.is stands.sessions.shown);
    }

pub returns-in_err-tell-in-Given : goal.returns-in_err-tell-in-Given
returns-in_err-tell-in-Given g c =
    let O = g.B.Bench.outside in
    let a = c.args in
    let result = c.from_residual-in_err-tell-in-Given.result in
    let fault = c.in_err-tell-in-Given.field-0.0 in
    let fails = handed result fault c.from_residual-in_err-tell-in-Given.ensures in
    record {
      turned = on-err result fault _ fails;
      history = λ first lists before r l more stands is sees. tell-history a.number a.line.now a.answers.now first lists before r l more a.engine.now a.sessions.now (O a.bench.now) stands is a.waiting.now sees (given c.in-Given.at) (meant c.in_ok-step.field-0) (c.in_ok-step.ensures first r stands.is stands.sessions) (ap meant c.in-Given.is) refl (Some c.in-Some.answer.now) (given-tells a.answers.now r l more c.in-Given.at (Some c.in-Some.answer.now) is.answers (sym c.in-Some.ensures))
          (O c.tell.new.bench) (c.tell.ensures.history first lists before r a.engine.now l more stands is.line_is is.number_is);
      full = λ full full_is. absurd (c.tell.ensures.not_full full (same-fault c.tell.result result fault (faults.Full full) c.in_err-tell-in-Given.was fails full_is));
      device = λ device_is. c.tell.ensures.device (same-fault c.tell.result result fault faults.Device c.in_err-tell-in-Given.was fails device_is);
      clean = on-err result fault _ fails;
    }

pub returns-in_ok-tell-in-Given : goal.returns-in_ok-tell-in-Given
returns-in_ok-tell-in-Given g c =
    let O = g.B.Bench.outside in
    let a = c.args in
    record {
      turned = λ first lists before r l more stands is sees. tell-turned a.number a.line.now a.answers.now first lists before r l more a.engine.now a.sessions.now (O a.bench.now) stands is a.waiting.now sees (given c.in-Given.at) (meant c.in_ok-step.field-0) (c.in_ok-step.ensures first r stands.is stands.sessions) (ap meant c.in-Given.is) refl (Some c.in-Some.answer.now) (given-tells a.answers.now r l more c.in-Given.at (Some c.in-Some.answer.now) is.answers (sym c.in-Some.ensures))
          c.tell.new.sessions (O c.tell.new.bench) a.answers.now (c.in_ok-tell-in-Given.ensures.told first lists before r a.engine.now l more stands is.line_is is.number_is);
      history = λ first lists before r l more stands is sees. tell-history a.number a.line.now a.answers.now first lists before r l more a.engine.now a.sessions.now (O a.bench.now) stands is a.waiting.now sees (given c.in-Given.at) (meant c.in_ok-step.field-0) (c.in_ok-step.ensures first r stands.is stands.sessions) (ap meant c.in-Given.is) refl (Some c.in-Some.answer.now) (given-tells a.answers.now r l more c.in-Given.at (Some c.in-Some.answer.now) is.answers (sym c.in-Some.ensures))
          (O c.tell.new.bench) (c.tell.ensures.history first lists before r a.engine.now l more stands is.line_is is.number_is);
      full = λ full full_is. no-fault true (faults.Full full) full_is;
      device = no-fault true faults.Device;
      clean = c.in_ok-tell-in-Given.ensures.clean;
    }

pub returns-in_default : goal.returns-in_default
returns-in_default g c =
    let O = g.B.Bench.outside in
    let a = c.args in
    record {
      turned = λ first lists before r l more stands is sees. tell-turned a.number a.line.now a.answers.now first lists before r l more a.engine.now a.sessions.now (O a.bench.now) stands is a.waiting.now sees (given c.in-Given.at) (meant c.in_ok-step.field-0) (c.in_ok-step.ensures first r stands.is stands.sessions) (ap meant c.in-Given.is) refl None (given-tells a.answers.now r l more c.in-Given.at None is.answers (sym c.in_default.ensures))
          a.sessions.now (O a.bench.now) a.answers.now (silent-stands first lists before r l more a.engine.now a.sessions.now (O a.bench.now) stands);
      history = λ first lists before r l more stands is sees. moments_none _ _;
      full = λ full full_is. no-fault true (faults.Full full) full_is;
      device = no-fault true faults.Device;
      clean = refl;
    }

pub returns-in_err-tell_owned-in-Answered : goal.returns-in_err-tell_owned-in-Answered
returns-in_err-tell_owned-in-Answered g c =
    let O = g.B.Bench.outside in
    let a = c.args in
    let result = c.from_residual-in_err-tell_owned-in-Answered.result in
    let fault = c.in_err-tell_owned-in-Answered.field-0.0 in
    let fails = handed result fault c.from_residual-in_err-tell_owned-in-Answered.ensures in
    record {
      turned = on-err result fault _ fails;
      history = λ first lists before r l more stands is sees. tell-history a.number a.line.now a.answers.now first lists before r l more a.engine.now a.sessions.now (O a.bench.now) stands is a.waiting.now sees (answered c.in-Answered.answer) (meant c.in_ok-step.field-0) (c.in_ok-step.ensures first r stands.is stands.sessions) (ap meant c.in-Answered.is) refl (Some c.in-Answered.answer) refl
          (O c.tell_owned.new.bench) (c.tell_owned.ensures.history first lists before r a.engine.now l more stands is.line_is is.number_is);
      full = λ full full_is. absurd (c.tell_owned.ensures.not_full full (same-fault c.tell_owned.result result fault (faults.Full full) c.in_err-tell_owned-in-Answered.was fails full_is));
      device = λ device_is. c.tell_owned.ensures.device (same-fault c.tell_owned.result result fault faults.Device c.in_err-tell_owned-in-Answered.was fails device_is);
      clean = on-err result fault _ fails;
    }

pub returns-in_ok-tell_owned-in-Answered : goal.returns-in_ok-tell_owned-in-Answered
returns-in_ok-tell_owned-in-Answered g c =
    let O = g.B.Bench.outside in
    let a = c.args in
    record {
      turned = λ first lists before r l more stands is sees. tell-turned a.number a.line.now a.answers.now first lists before r l more a.engine.now a.sessions.now (O a.bench.now) stands is a.waiting.now sees (answered c.in-Answered.answer) (meant c.in_ok-step.field-0) (c.in_ok-step.ensures first r stands.is stands.sessions) (ap meant c.in-Answered.is) refl (Some c.in-Answered.answer) refl
          c.tell_owned.new.sessions (O c.tell_owned.new.bench) a.answers.now (c.in_ok-tell_owned-in-Answered.ensures.told first lists before r a.engine.now l more stands is.line_is is.number_is);
      history = λ first lists before r l more stands is sees. tell-history a.number a.line.now a.answers.now first lists before r l more a.engine.now a.sessions.now (O a.bench.now) stands is a.waiting.now sees (answered c.in-Answered.answer) (meant c.in_ok-step.field-0) (c.in_ok-step.ensures first r stands.is stands.sessions) (ap meant c.in-Answered.is) refl (Some c.in-Answered.answer) refl
          (O c.tell_owned.new.bench) (c.tell_owned.ensures.history first lists before r a.engine.now l more stands is.line_is is.number_is);
      full = λ full full_is. no-fault true (faults.Full full) full_is;
      device = no-fault true faults.Device;
      clean = c.in_ok-tell_owned-in-Answered.ensures.clean;
    }

pub returns-in-Nothing : goal.returns-in-Nothing
returns-in-Nothing g c =
    let O = g.B.Bench.outside in
    let a = c.args in
    record {
      turned = λ first lists before r l more stands is sees. tell-turned a.number a.line.now a.answers.now first lists before r l more a.engine.now a.sessions.now (O a.bench.now) stands is a.waiting.now sees silent (meant c.in_ok-step.field-0) (c.in_ok-step.ensures first r stands.is stands.sessions) (ap meant c.in-Nothing.is) refl None refl
          a.sessions.now (O a.bench.now) a.answers.now (silent-stands first lists before r l more a.engine.now a.sessions.now (O a.bench.now) stands);
      history = λ first lists before r l more stands is sees. moments_none _ _;
      full = λ full full_is. no-fault true (faults.Full full) full_is;
      device = no-fault true faults.Device;
      clean = refl;
    }
