use Rattle.std.proofs.Common.{Some, None, sym, ap, ◌∙◌}
use Rattle.std.specs.FinMap as maps
use Rattle.std.specs.Option.{option_copied}
use Rattle.fm_branch.proofs.HeldLaws.{held-at}
use Rattle.fm_branch.specs.Held.{Places, held_in}
use Rattle.fm_branch.proofs.held.HeldLinks.at.Goals as goal

pub returns-in-Some : goal.returns-in-Some
returns-in-Some c =
    held-at c.self.inside.places.entries c.args.path.now (Some c.in-Some.place.now) (sym (ap option_copied c.in-Some.is) ∙ c.get.ensures.value)
    ∙ ap (λ (m : Places). maps.get (held_in m) c.args.path.now) c.self.view_is

pub returns-in-None : goal.returns-in-None
returns-in-None c =
    held-at c.self.inside.places.entries c.args.path.now None (sym (ap option_copied c.in-None.is) ∙ c.get.ensures.value)
    ∙ ap (λ (m : Places). maps.get (held_in m) c.args.path.now) c.self.view_is
