use Rattle.std.proofs.Common.{[], arith}
use Rattle.dl_host.proofs.Undone.{untold_none, untold_on}
use Rattle.dl_host.proofs.again.locked.Goals as goal

pub again-init : goal.again-init
again-init g c = record { unlocked = c.requires.once; untold = untold_none [] (g.H.Host.outside c.args.host.now) (g.H.Host.hold c.args.host.now) (g.H.Host.interruptions c.args.host.now) }

pub again-preserved : goal.again-preserved
again-preserved g c = record {
  unlocked = c.in-Err-Interrupted.ensures.unlocked;
  untold = untold_on c.again.invariant.untold c.in-Err-Interrupted.field-0-is c.in-Err-Interrupted.ensures.faults c.in-Err-Interrupted.ensures.interruptions (omega arith) c.lock.ensures.told c.lock.ensures.crash c.lock.ensures.stays;
}
