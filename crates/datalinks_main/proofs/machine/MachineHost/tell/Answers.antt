use Rattle.dl_host.proofs.Untold.{says_untold}
use Rattle.datalinks_main.proofs.machine.MachineHost.tell.Goals as goal

pub returns-clause-crash : goal.returns-clause-crash
returns-clause-crash g c = says_untold c.args.bytes.now c.args.self.now.counts.faults c.counted_part.new.self.counts.faults c.counted_part.ensures.later
