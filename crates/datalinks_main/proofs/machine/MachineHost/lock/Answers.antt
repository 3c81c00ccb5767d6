use Rattle.std.proofs.Common.{[]}
use Rattle.dl_host.proofs.Untold.{says_untold}
use Rattle.datalinks_main.proofs.machine.MachineHost.lock.Goals as goal

pub returns-in_err-folder-clause-crash : goal.returns-in_err-folder-clause-crash
returns-in_err-folder-clause-crash g c = says_untold [] c.args.self.now.counts.faults c.counted.new.self.counts.faults c.counted.ensures.later
