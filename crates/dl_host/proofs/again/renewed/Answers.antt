use Rattle.std.proofs.Common.{arith}
use Rattle.dl_host.proofs.Undone.{undone_none, undone_on}
use Rattle.dl_host.proofs.Loops.{touches_still}
use Rattle.dl_host.proofs.again.renewed.Goals as goal

pub again-init : goal.again-init
again-init g c =
    let area = g.H.Host.area_of c.args.file.now in
    let o = g.H.Host.outside c.args.host.now in
    undone_none area (o.image area) o (g.H.Host.hold c.args.host.now) (g.H.Host.interruptions c.args.host.now) (λ c left. left) c.requires.locked

pub again-preserved : goal.again-preserved
again-preserved g c =
    let area = g.H.Host.area_of c.args.file.now in
    let o = g.H.Host.outside c.args.host.now in
    undone_on c.again.invariant c.in-Err-Interrupted.field-0-is c.in-Err-Interrupted.ensures.faults c.in-Err-Interrupted.ensures.interruptions (omega arith) c.renew.ensures.same
    (touches_still area (o.image area) o _ _ c.again.invariant.crash c.renew.ensures.crash) c.renew.ensures.stays
