use Rattle.sys_core.proofs.Entering.{entered, not-entered}
use Rattle.sys_core.proofs.Seating.{seat-moved}
use Rattle.sys_core.proofs.Spelled.{seat-spelled}
use Rattle.sys_core.proofs.Voted.{Laws, vote-taken}
use Rattle.sys_core.proofs.Voting.{never-none, seat-found, there-in}
use Rattle.sys_core.proofs.engine.Engine.enter.Goals as goal

pub unreachable-requires : goal.unreachable-requires
unreachable-requires g c =
    let n = c.requires.stands in
    never-none n.0 c.args.self.now n.1 c.args.tx n.3 n.4.can.state (there-in n.1 n.2 c.args.tx n.3 n.4.can.txn) c.in_default.ensures

pub write_prepared-requires-clause-taken : goal.write_prepared-requires-clause-taken
write_prepared-requires-clause-taken g c =
    let n = c.requires.stands in
    let w = c.args.self.now in
    let x = c.in-Some.seat.now in
    let laws : Laws = record { leads = c.each_step_leads_on.ensures.kept; claims = c.claims_behind_steps_of_a_session.ensures.prepare; counts = c.seats_count_together.ensures.put } in
    let is = seat-found n.0 w n.1 c.args.tx n.3 x n.4.can.state (there-in n.1 n.2 c.args.tx n.3 n.4.can.txn) c.in-Some.ensures in
    vote-taken laws n.0 w n.1 n.2 c.args.tx n.3 n.4.can x.claim.gives x.claim.takes (seat-moved n.1 c.args.tx n.3 x is)

pub returns-in-Ok-clause-votes : goal.returns-in-Ok-clause-votes
returns-in-Ok-clause-votes g c first s session t can =
    let O = g.B.Bench.outside in
    let w = c.args.self.now in
    let x = c.in-Some.seat.now in
    let laws : Laws = record { leads = c.each_step_leads_on.ensures.kept; claims = c.claims_behind_steps_of_a_session.ensures.prepare; counts = c.seats_count_together.ensures.put } in
    let is = seat-found first w s c.args.tx t x can.can.state (there-in s session c.args.tx t can.can.txn) c.in-Some.ensures in
    entered first s session c.args.tx t w c.args.vote can x is c.write_prepared.new.owners (O c.args.bench.now) (O c.write_prepared.new.bench) laws c.change_stage.new.self
    c.in-Ok.ensures.folds c.in-Ok.ensures.same c.change_stage.ensures.seats c.in-Ok.ensures.ends

pub returns-in-Err-clause-votes : goal.returns-in-Err-clause-votes
returns-in-Err-clause-votes g c first s session t can =
    let O = g.B.Bench.outside in
    let w = c.args.self.now in
    let x = c.in-Some.seat.now in
    let is = seat-found first w s c.args.tx t x can.can.state (there-in s session c.args.tx t can.can.txn) c.in-Some.ensures in
    not-entered first s session c.args.tx t w c.args.vote can x is c.write_prepared.new.owners (O c.args.bench.now) (O c.write_prepared.new.bench)
    c.in-Err.fault c.in-Err.ensures.err c.in-Err.ensures.ends

pub returns-in-Ok-clause-spelled : goal.returns-in-Ok-clause-spelled
returns-in-Ok-clause-spelled g c kept first s session t can =
    let x = c.in-Some.seat.now in
    seat-spelled s c.args.tx t x (seat-found first c.args.self.now s c.args.tx t x can.state (there-in s session c.args.tx t can.txn) c.in-Some.ensures) (c.in-Ok.ensures.spelled kept)

pub returns-in-Err-clause-spelled : goal.returns-in-Err-clause-spelled
returns-in-Err-clause-spelled g c kept first s session t can =
    let x = c.in-Some.seat.now in
    seat-spelled s c.args.tx t x (seat-found first c.args.self.now s c.args.tx t x can.state (there-in s session c.args.tx t can.txn) c.in-Some.ensures) (c.in-Err.ensures.spelled kept)
