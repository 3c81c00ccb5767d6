use Rattle.std.proofs.Common.{sym, subst, arith}
use Rattle.dl_base.specs.Outside.{ChangesOnly}
use Rattle.dl_host.proofs.Counted.{touches_counted}
use Rattle.dl_host.proofs.folder.FolderBenchBench.renew.Goals as goal

pub returns-clause-crash : goal.returns-clause-crash
returns-clause-crash g c =
    let o = g.H.Host.outside c.args.self.now.host in
    touches_counted c.args.area (o.image c.args.area) o (g.H.Host.outside c.counted.new.self.host) c.args.self.now.faults c.counted.new.self.faults (omega (arith, c.counted.ensures.later, c.renew_in-answer.ensures.count))
    (subst (λ (h : g.row.H.Denot). ChangesOnly c.args.area (o.image c.args.area) o (g.H.Host.outside h)) (sym c.counted.ensures.host) c.renew_in-answer.ensures.crash)
