use Rattle.std.proofs.Common.{None, ap, ◌∙◌}
use Rattle.fm_branch.proofs.HeldLaws.{held-given, places-with}
use Rattle.fm_branch.specs.Held.{Places, has_place, held_in}
use Rattle.fm_branch.proofs.held.HeldLinks.give.Goals as goal

pub returns-clause-held : goal.returns-clause-held
returns-clause-held c = ap held_in c.set.ensures ∙ held-given c.args.self.now c.args.path.now

pub returns-clause-places : goal.returns-clause-places
returns-clause-places c q = ap (λ (m : Places). has_place m q) c.set.ensures ∙ places-with c.args.self.now c.args.path.now None q
