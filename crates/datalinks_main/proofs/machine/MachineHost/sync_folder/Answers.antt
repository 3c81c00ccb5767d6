use Rattle.dl_host.proofs.Untold.{touches_untold}
use Rattle.datalinks_main.proofs.machine.MachineHost.sync_folder.Goals as goal

pub returns-clause-crash : goal.returns-clause-crash
returns-clause-crash g c = touches_untold c.args._file.now.area _ c.args.self.now.counts.faults c.counted.new.self.counts.faults c.counted.ensures.later
