use Rattle.std.proofs.Common.{Some, refl, sym, ◌∙◌, ap}
use Rattle.dl_base.specs.declared.step.Step.TheVariants as steps
use Rattle.sys_core.proofs.Deciding.{shows-ended}
use Rattle.sys_core.proofs.Finishing.{finish-state, finishing}
use Rattle.sys_core.proofs.Stepped.{steps-over}
use Rattle.sys_core.specs.Steps.{as_step}
use Rattle.sys_seats.specs.declared.seat.Stage.{Stage}
use Rattle.sys_core.specs.declared.engine.Engine.{Engine}
use Rattle.meaning_system.specs.Machine.{settled_by}
use Rattle.sys_core.proofs.engine.Engine.finish_decided.Goals as goal

pub finish_on-requires-clause-stands : goal.finish_on-requires-clause-stands
finish_on-requires-clause-stands g c =
    let w = c.args.self.now in
    let v = c.args.txn.now in
    let stands = c.requires.stands in
    let is = sym c.change_stage.ensures.value ∙ c.in-Some-Decided.is ∙ ap (λ (y : Stage). Some y) c.in-Some-Decided.field-0-is in
    let it = finishing c.seats_count_together.ensures.put stands.0 w stands.1 v c.args.tx stands.2 stands.3 c.requires.own c.in-Some-Decided.pieces is c.change_stage.new.self c.change_stage.ensures.seats in
    (stands.0, stands.1, it.0, it.1)

pub returns-clause-steps : goal.returns-clause-steps
returns-clause-steps g c first s of has =
    let O = g.B.Bench.outside in
    let w = c.args.self.now in
    let v = c.args.txn.now in
    let is = sym c.change_stage.ensures.value ∙ c.in-Some-Decided.is ∙ ap (λ (y : Stage). Some y) c.in-Some-Decided.field-0-is in
    let it = finishing c.seats_count_together.ensures.put first w s v c.args.tx of has c.requires.own c.in-Some-Decided.pieces is c.change_stage.new.self c.change_stage.ensures.seats in
    let k : Engine = record w { seats = c.change_stage.new.self } in
    steps-over first (steps.Finish v.session) s w k c.finish_on.new.self (as_step c.finish_on.result) (O c.args.bench.now) (O c.finish_on.new.bench) refl (c.finish_on.ensures.steps first s it.0 it.1)

pub returns-clause-shows : goal.returns-clause-shows
returns-clause-shows g c first s of has =
    let w = c.args.self.now in
    let v = c.args.txn.now in
    let is = sym c.change_stage.ensures.value ∙ c.in-Some-Decided.is ∙ ap (λ (y : Stage). Some y) c.in-Some-Decided.field-0-is in
    let it = finishing c.seats_count_together.ensures.put first w s v c.args.tx of has c.requires.own c.in-Some-Decided.pieces is c.change_stage.new.self c.change_stage.ensures.seats in
    shows-ended (steps.Finish v.session) s (settled_by s it.0) v c.finish_on.new.txn c.args.tx c.finish_on.result (finish-state s v.session c.args.tx it.0 it.1.is it.1.in_phase) c.finish_on.ensures.txn

pub returns-clause-spelled : goal.returns-clause-spelled
returns-clause-spelled g c first s of has =
    let w = c.args.self.now in
    let v = c.args.txn.now in
    let is = sym c.change_stage.ensures.value ∙ c.in-Some-Decided.is ∙ ap (λ (y : Stage). Some y) c.in-Some-Decided.field-0-is in
    let it = finishing c.seats_count_together.ensures.put first w s v c.args.tx of has c.requires.own c.in-Some-Decided.pieces is c.change_stage.new.self c.change_stage.ensures.seats in
    c.finish_on.ensures.spelled first s it.0 it.1
