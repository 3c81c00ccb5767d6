use Rattle.dl_host.proofs.Untold.{touches_untold}
use Rattle.datalinks_main.proofs.machine.MachineHost.length.Goals as goal

pub returns-in_err-counted-clause-crash : goal.returns-in_err-counted-clause-crash
returns-in_err-counted-clause-crash g c = touches_untold c.args.file.now.area _ c.args.self.now.counts.faults c.counted.new.self.counts.faults c.counted.ensures.later
