use Rattle.std.proofs.Common.{sym, subst, arith}
use Rattle.dl_base.specs.Outside.{Says}
use Rattle.dl_host.proofs.Counted.{says_counted}
use Rattle.dl_host.proofs.folder.FolderBenchBench.say.Goals as goal

pub returns-clause-crash : goal.returns-clause-crash
returns-clause-crash g c =
    let o = g.H.Host.outside c.args.self.now.host in
    says_counted c.args.bytes.now o (g.H.Host.outside c.counted.new.self.host) c.args.self.now.faults c.counted.new.self.faults (omega (arith, c.counted.ensures.later, c.tell-answer.ensures.count))
    (subst (λ (h : g.row.H.Denot). Says c.args.bytes.now o (g.H.Host.outside h)) (sym c.counted.ensures.host) c.tell-answer.ensures.crash)
