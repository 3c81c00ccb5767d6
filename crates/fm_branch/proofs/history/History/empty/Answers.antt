use Rattle.std.proofs.Common.{ap, ◌∙◌}
use Rattle.fm_branch.proofs.HeldLaws.{held-empty}
use Rattle.fm_branch.specs.Held.{held_in}
use Rattle.fm_branch.proofs.history.History.empty.Goals as goal

pub returns : goal.returns
returns c = λ i. record {
  links = record { opening = 0; table = (c.empty.ensures i).table; held = (ap held_in c.empty-2.ensures ∙ held-empty) i };
  prepared = (c.empty.ensures i).prepared;
}
