use Rattle.std.proofs.Common.{is_some, sym, ap, ◌∙◌}
use Rattle.fm_branch.proofs.HeldLaws.{some-row}
use Rattle.fm_branch.proofs.held.HeldLinks.is_held.Goals as goal

pub returns : goal.returns
returns c = c.is_some.ensures ∙ sym (some-row c.args.path.now c.at.result) ∙ ap is_some c.at.ensures
