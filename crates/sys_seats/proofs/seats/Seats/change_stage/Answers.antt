use Rattle.std.proofs.Common.{sym, ap, ◌∙◌}
use Rattle.std.specs.FinMap as maps
use Rattle.std.specs.Option.{option_map}
use Rattle.sys_seats.proofs.Changes.{seat-at, stage-changed}
use Rattle.sys_seats.specs.Seats.{Seated, with_stage}
use Rattle.sys_seats.specs.declared.seat.Seat.{Seat}
use Rattle.sys_seats.proofs.seats.Seats.change_stage.Goals as goal

pub returns-clause-value : goal.returns-clause-value
returns-clause-value c =
    c.set_stage.ensures.value
    ∙ ap (option_map (λ (s : Seat). s.stage)) (sym (seat-at c.self.inside.entries.entries c.args.tx) ∙ ap (λ (m : Seated). maps.get m c.args.tx) c.self.view_is)

pub returns-clause-seats : goal.returns-clause-seats
returns-clause-seats c =
    stage-changed c.self.inside.entries.entries c.set_stage.new.entries.entries c.args.tx c.set_stage.ensures.others c.args.stage c.set_stage.ensures.entry
    ∙ ap (λ (m : Seated). with_stage m c.args.tx c.args.stage (maps.get m c.args.tx)) c.self.view_is
