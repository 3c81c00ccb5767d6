use Rattle.std.proofs.Common.{Some, refl, sym, ◌∙◌, ap}
use Rattle.dl_base.specs.declared.step.Step.TheVariants as steps
use Rattle.sys_core.proofs.Deciding.{deciding}
use Rattle.sys_core.proofs.Stepped.{steps-over}
use Rattle.sys_core.specs.Steps.{as_step}
use Rattle.sys_seats.specs.declared.seat.Stage.{Stage}
use Rattle.sys_core.specs.declared.engine.Engine.{Engine}
use Rattle.sys_core.proofs.engine.Engine.decide_prepared.Goals as goal

pub decide_on-requires-clause-deciding : goal.decide_on-requires-clause-deciding
decide_on-requires-clause-deciding g c =
    let w = c.args.self.now in
    let v = c.args.txn.now in
    let stands = c.requires.stands in
    let vote = c.in-Some-Prepared.vote in
    let is = sym c.change_stage.ensures.value ∙ c.in-Some-Prepared.is ∙ ap (λ (y : Stage). Some y) c.in-Some-Prepared.field-0-is in
    let it = deciding c.seats_count_together.ensures.put stands.0 w stands.1 v c.args.tx stands.2 stands.3 c.requires.own vote is c.change_stage.new.self c.change_stage.ensures.seats in
    (stands.0, stands.1, it.0, it.1)

pub returns-clause-steps : goal.returns-clause-steps
returns-clause-steps g c first s of has =
    let O = g.B.Bench.outside in
    let w = c.args.self.now in
    let v = c.args.txn.now in
    let vote = c.in-Some-Prepared.vote in
    let is = sym c.change_stage.ensures.value ∙ c.in-Some-Prepared.is ∙ ap (λ (y : Stage). Some y) c.in-Some-Prepared.field-0-is in
    let it = deciding c.seats_count_together.ensures.put first w s v c.args.tx of has c.requires.own vote is c.change_stage.new.self c.change_stage.ensures.seats in
    let k : Engine = record w { seats = c.change_stage.new.self } in
    steps-over first (steps.Decide v.session) s w k c.decide_on.new.self (as_step c.decide_on.result) (O c.args.bench.now) (O c.decide_on.new.bench) refl (c.decide_on.ensures.steps first s it.0 it.1)

pub returns-clause-shows : goal.returns-clause-shows
returns-clause-shows g c first s of has =
    let w = c.args.self.now in
    let v = c.args.txn.now in
    let vote = c.in-Some-Prepared.vote in
    let is = sym c.change_stage.ensures.value ∙ c.in-Some-Prepared.is ∙ ap (λ (y : Stage). Some y) c.in-Some-Prepared.field-0-is in
    let it = deciding c.seats_count_together.ensures.put first w s v c.args.tx of has c.requires.own vote is c.change_stage.new.self c.change_stage.ensures.seats in
    c.decide_on.ensures.shows first s it.0 it.1

pub returns-clause-spelled : goal.returns-clause-spelled
returns-clause-spelled g c first s of has =
    let w = c.args.self.now in
    let v = c.args.txn.now in
    let vote = c.in-Some-Prepared.vote in
    let is = sym c.change_stage.ensures.value ∙ c.in-Some-Prepared.is ∙ ap (λ (y : Stage). Some y) c.in-Some-Prepared.field-0-is in
    let it = deciding c.seats_count_together.ensures.put first w s v c.args.tx of has c.requires.own vote is c.change_stage.new.self c.change_stage.ensures.seats in
    c.decide_on.ensures.spelled first s it.0 it.1
