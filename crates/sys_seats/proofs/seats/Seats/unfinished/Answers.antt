use Rattle.std.proofs.Common.{ap, ◌∙◌}
use Rattle.sys_seats.proofs.Sums.{unfinished-entries}
use Rattle.sys_seats.specs.Seats.{Seated, unfinished_of}
use Rattle.sys_seats.proofs.seats.Seats.unfinished.Goals as goal

pub returns : goal.returns
returns c =
    c.first_unfinished.ensures.first ∙ unfinished-entries c.self.inside.entries.entries c.first_unfinished.ensures.ordered ∙ ap (λ (m : Seated). unfinished_of m) c.self.view_is
