use Rattle.std.proofs.Common.{sym, ap, ◌∙◌}
use Rattle.std.specs.FinMap as maps
use Rattle.sys_seats.proofs.Changes.{seat-at}
use Rattle.sys_seats.specs.Seats.{Seated}
use Rattle.sys_seats.proofs.seats.Seats.get.Goals as goal

pub returns : goal.returns
returns c =
    c.get.ensures.value ∙ sym (seat-at c.self.inside.entries.entries c.args.tx)
    ∙ ap (λ (m : Seated). maps.get m c.args.tx) c.self.view_is
