use Rattle.std.proofs.Common.{sym, ◌∙◌}
use Rattle.dl_pages.proofs.Turns.{first_item}
use Rattle.dl_pages.proofs.tree.first_of.Goals as goal

pub returns-in-Some : goal.returns-in-Some
returns-in-Some g c = c.at.ensures ∙ sym (first_item c.args.parts.now c.in-Some.part.now c.requires c.in-Some.ensures.value)
