use Rattle.dl_host.proofs.Untold.{touches_untold}
use Rattle.datalinks_main.proofs.machine.MachineHost.write_at.Goals as goal

pub returns-clause-crash : goal.returns-clause-crash
returns-clause-crash g c = touches_untold c.args.file.now.area _ c.args.self.now.counts.faults c.counted_part.new.self.counts.faults c.counted_part.ensures.later
