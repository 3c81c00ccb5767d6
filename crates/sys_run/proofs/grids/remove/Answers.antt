use Rattle.std.specs.Cmp.{nat_cmp_total}
use Rattle.std.specs.FinMap.{nat_cmp-IsAntisymmetric}
use Rattle.fm_branch.proofs.Maps.{of-removed}
use Rattle.sys_run.proofs.grids.remove.Goals as goal

pub returns : goal.returns
returns c = of-removed nat_cmp_total nat_cmp-IsAntisymmetric c.args.entries.now.entries c.remove.new.self.entries c.args.session c.remove.ensures.updates.0
