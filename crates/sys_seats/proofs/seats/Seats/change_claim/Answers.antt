use Rattle.std.proofs.Common.{ap, ◌∙◌}
use Rattle.std.specs.FinMap as maps
use Rattle.sys_seats.proofs.Changes.{claim-changed}
use Rattle.sys_seats.specs.Seats.{Seated, with_claim}
use Rattle.sys_seats.proofs.seats.Seats.change_claim.Goals as goal

pub returns : goal.returns
returns c =
    claim-changed c.self.inside.entries.entries c.set_claim.new.entries.entries c.args.tx c.set_claim.ensures.others c.args.claim c.set_claim.ensures.entry
    ∙ ap (λ (m : Seated). with_claim m c.args.tx c.args.claim (maps.get m c.args.tx)) c.self.view_is
