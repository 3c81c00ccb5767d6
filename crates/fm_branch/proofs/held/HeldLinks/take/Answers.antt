use Rattle.std.proofs.Common.{Some, ap, refl, ◌∙◌}
use Rattle.fm_branch.proofs.HeldLaws.{held-taken, places-with}
use Rattle.fm_branch.specs.Held.{Places, has_place, held_in}
use Rattle.fm_branch.proofs.held.HeldLinks.take.Goals as goal

pub returns-clause-held : goal.returns-clause-held
returns-clause-held c =
    ap held_in c.set.ensures
    ∙ held-taken c.args.self.now c.args.link.now (record { link = c.args.link.now.link; options = c.args.link.now.options }) refl c.requires

pub returns-clause-places : goal.returns-clause-places
returns-clause-places c q =
    ap (λ (m : Places). has_place m q) c.set.ensures
    ∙ places-with c.args.self.now c.args.link.now.path (Some (record { link = c.args.link.now.link; options = c.args.link.now.options })) q
