use Rattle.std.proofs.Common.{ap, ◌∙◌}
use Rattle.std.specs.FinMap as maps
use Rattle.sys_seats.specs.Seats.{Seated}
use Rattle.sys_seats.proofs.seats.Seats.take.Goals as goal

pub returns-clause-value : goal.returns-clause-value
returns-clause-value c = c.remove.ensures.value ∙ ap (λ (m : Seated). maps.get m c.args.tx) c.self.view_is

pub returns-clause-seats : goal.returns-clause-seats
returns-clause-seats c = c.remove.ensures.rest ∙ ap (λ (m : Seated). maps.remove m c.args.tx) c.self.view_is
