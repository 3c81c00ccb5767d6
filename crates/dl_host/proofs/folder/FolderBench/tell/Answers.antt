use Rattle.dl_host.proofs.Idle.{says_wider}
use Rattle.dl_host.proofs.folder.FolderBench.tell.Goals as goal

pub returns-in_err-enter-clause-crash : goal.returns-in_err-enter-clause-crash
returns-in_err-enter-clause-crash g c = says_wider c.args.bytes.now (g.H.Host.outside c.args.self.now.host) (g.H.Host.outside c.enter.new.self.host) c.enter.ensures.crash
