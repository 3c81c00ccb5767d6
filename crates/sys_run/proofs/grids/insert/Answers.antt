use Rattle.std.specs.Cmp.{nat_cmp_total}
use Rattle.std.specs.FinMap.{nat_cmp-IsAntisymmetric}
use Rattle.fm_branch.proofs.Maps.{of-put}
use Rattle.sys_run.proofs.grids.insert.Goals as goal

pub returns-clause-ok : goal.returns-clause-ok
returns-clause-ok c = of-put nat_cmp_total nat_cmp-IsAntisymmetric c.args.entries.now.entries c.insert.new.self.entries c.args.session c.args.text c.in_ok-insert.ensures.updates.0
