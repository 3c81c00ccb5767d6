use Rattle.std.proofs.Common.{length, arith}
use Rattle.dl_base.specs.Outside.{Torn}
use Rattle.dl_host.proofs.Undone.{undone_none, undone_on}
use Rattle.dl_host.proofs.Loops.{nothing_torn, touches_on}
use Rattle.dl_host.proofs.again.write_some.Goals as goal

pub again-init : goal.again-init
again-init g c =
    let area = g.H.Host.area_of c.args.file.now in
    let o = g.H.Host.outside c.args.host.now in
    let n = length c.args.bytes.now in
    undone_none area (Torn c.args.at n (o.image area)) o (g.H.Host.hold c.args.host.now) (g.H.Host.interruptions c.args.host.now) (nothing_torn c.args.at n (o.image area)) c.requires.locked

pub again-preserved : goal.again-preserved
again-preserved g c =
    let area = g.H.Host.area_of c.args.file.now in
    let o = g.H.Host.outside c.args.host.now in
    let n = length c.args.bytes.now in
    undone_on {Q = Torn c.args.at n (o.image area)} c.again.invariant c.in-Err-Interrupted.field-0-is c.in-Err-Interrupted.ensures.faults c.in-Err-Interrupted.ensures.interruptions (omega arith) (c.in-Err-Interrupted.ensures.again (cc))
    (touches_on area c.args.at n c.args.at n o _ _ (omega arith) (omega arith) c.again.invariant.crash c.write_at.ensures.crash) c.write_at.ensures.stays
