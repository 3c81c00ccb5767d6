use Rattle.std.proofs.Common.{sym, ◌∙◌}
use Rattle.std.specs.Cmp.{nat_cmp_total}
use Rattle.std.specs.FinMap.{nat_cmp-IsAntisymmetric}
use Rattle.fm_branch.proofs.Maps.{of-removed}
use Rattle.sys_seats.proofs.Changes.{seat-at}
use Rattle.sys_seats.proofs.seats.remove.Goals as goal

pub returns-clause-value : goal.returns-clause-value
returns-clause-value c = c.remove.ensures.value ∙ sym (seat-at c.args.entries.now.entries c.args.tx)

pub returns-clause-rest : goal.returns-clause-rest
returns-clause-rest c = of-removed nat_cmp_total nat_cmp-IsAntisymmetric c.args.entries.now.entries c.remove.new.self.entries c.args.tx c.remove.ensures.updates.0
