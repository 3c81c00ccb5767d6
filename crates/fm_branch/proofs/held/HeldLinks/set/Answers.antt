use Rattle.std.proofs.Common.{ap, ◌∙◌}
use Rattle.std.specs.FinMap as maps
use Rattle.fm_branch.proofs.HeldLaws.{holding_of_entries}
use Rattle.fm_branch.specs.Held.{Places, with_holding}
use Rattle.fm_branch.proofs.held.HeldLinks.set.Goals as goal

pub returns : goal.returns
returns c =
    holding_of_entries c.self.inside.places.entries c.write_at.new.places.entries c.args.path.now c.args.holding c.write_at.ensures.others c.write_at.ensures.entry
    ∙ ap (λ (m : Places). with_holding m c.args.path.now c.args.holding (maps.get m c.args.path.now)) c.self.view_is
