use Rattle.std.proofs.Common.{refl}
use Rattle.meaning_areas.specs.Stands.{stored_of}
use Rattle.sys_core.specs.declared.engine.Engine.{Engine}
use Rattle.sys_opening.specs.declared.fault.OpenFault.TheVariants as faults
use Rattle.sys_start.proofs.Starting.{err-as, open-is}
use Rattle.sys_start.proofs.opening.open.Goals as goal

pub returns-in-Ok-clause-begun : goal.returns-in-Ok-clause-begun
returns-in-Ok-clause-begun g c =
    let begun = c.in-Ok.ensures.begun in
    let given = c.args.settings in
    let w : Engine = record { alloc = c.args.alloc; owners = c.in-Ok.owners; claims = c.empty.result; seats = c.empty-in-Ok.result; settings = given; moment = given.now } in
    let x = stored_of begun.1 in (
      begun.0,
      begun.1,
      begun.2,
      open-is w x given (begun.2.sound given) begun.2.drawn refl refl c.empty.ensures c.empty-in-Ok.ensures (c.claims_behind_stops.ensures.start given x) c.seats_count_together.ensures.none,
    )

pub returns-in-Err-clause-no_store : goal.returns-in-Err-clause-no_store
returns-in-Err-clause-no_store g c area place is = c.in-Err.ensures.no_store area place (err-as c.in-Err.fault (faults.NotAStore area place) is)

pub returns-in-Err-clause-found : goal.returns-in-Err-clause-found
returns-in-Err-clause-found g c full is = c.in-Err.ensures.found full (err-as c.in-Err.fault (faults.Full full) is)

pub returns-in-Err-clause-stands : goal.returns-in-Err-clause-stands
returns-in-Err-clause-stands g c full is = c.in-Err.ensures.stands full (err-as c.in-Err.fault (faults.Full full) is)

pub returns-in-Err-clause-there : goal.returns-in-Err-clause-there
returns-in-Err-clause-there g c full is = c.in-Err.ensures.there full (err-as c.in-Err.fault (faults.Full full) is)
