use Rattle.dl_base.specs.declared.step.Step.TheVariants as steps
use Rattle.meaning_system.specs.State.{kept_in, moved_of}
use Rattle.meaning_system.specs.Writes.{whole_finish, writes}
use Rattle.sys_core.proofs.Finishing.{finish-done, finish-fault, finish-writes}
use Rattle.sys_records.proofs.Spelled.{as-spelled}
use Rattle.sys_core.proofs.engine.Engine.finish_on.Goals as goal

pub settle-requires-clause-stands : goal.settle-requires-clause-stands
settle-requires-clause-stands g c =
    let it = c.requires.stands in
    (it.0, it.1, c.args.txn.now.session, c.args.tx, it.2, it.3)

pub returns-in-Ok-clause-steps : goal.returns-in-Ok-clause-steps
returns-in-Ok-clause-steps g c first s t b =
    let O = g.B.Bench.outside in
    let w = c.args.self.now in
    let session = c.args.txn.now.session in
    finish-done c.each_step_leads_on.ensures.kept first w s session c.args.tx t c.args.pieces b c.claims_behind_steps_of_a_session.ensures.finish c.seats_count_together.ensures.taken c.pieces_stay_what_they_are.ensures c.settle.new.self c.end.new.self
    c.in-Ok.ensures.same c.end.ensures.same c.end.ensures.claims (c.in-Ok.ensures.settled first s session c.args.tx t b) (O c.args.bench.now) (O c.settle.new.bench) (c.in-Ok.ensures.does first s session c.args.tx t b)

pub returns-in-Err-clause-steps : goal.returns-in-Err-clause-steps
returns-in-Err-clause-steps g c first s t b =
    let O = g.B.Bench.outside in
    let session = c.args.txn.now.session in
    finish-fault c.each_step_leads_on.ensures.kept first c.args.self.now s session c.args.tx t c.args.pieces b c.settle.new.self c.in-Err.fault (O c.args.bench.now) (O c.settle.new.bench) (c.in-Err.ensures.does first s session c.args.tx t b)

pub returns-in-Ok-clause-spelled : goal.returns-in-Ok-clause-spelled
returns-in-Ok-clause-spelled g c first s t b =
    let session = c.args.txn.now.session in
    as-spelled (writes s (steps.Finish session)) (whole_finish c.args.tx (moved_of t) (kept_in s)) (finish-writes s session c.args.tx t b.is b.in_phase) (c.in-Ok.ensures.spelled first s session c.args.tx t b)

pub returns-in-Err-clause-spelled : goal.returns-in-Err-clause-spelled
returns-in-Err-clause-spelled g c first s t b =
    let session = c.args.txn.now.session in
    as-spelled (writes s (steps.Finish session)) (whole_finish c.args.tx (moved_of t) (kept_in s)) (finish-writes s session c.args.tx t b.is b.in_phase) (c.in-Err.ensures.spelled first s session c.args.tx t b)
