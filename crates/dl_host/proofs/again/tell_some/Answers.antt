use Rattle.std.proofs.Common.{arith}
use Rattle.dl_host.proofs.Undone.{untold_none, untold_on}
use Rattle.dl_host.proofs.again.tell_some.Goals as goal

pub again-init : goal.again-init
again-init g c = record { locked = c.requires.locked; untold = untold_none c.args.bytes.now (g.H.Host.outside c.args.host.now) (g.H.Host.hold c.args.host.now) (g.H.Host.interruptions c.args.host.now) }

pub again-preserved : goal.again-preserved
again-preserved g c = record { locked = c.tell.ensures.stays.lock c.again.invariant.locked; untold = untold_on c.again.invariant.untold c.in-Err-Interrupted.field-0-is c.in-Err-Interrupted.ensures.faults c.in-Err-Interrupted.ensures.interruptions (omega arith) (c.in-Err-Interrupted.ensures.again (cc)) c.tell.ensures.crash c.tell.ensures.stays }
