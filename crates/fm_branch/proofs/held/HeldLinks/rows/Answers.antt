use Rattle.std.proofs.Common.{sym, ap, ◌∙◌}
use Rattle.std.specs.FinMap as maps
use Rattle.fm_branch.proofs.HeldLaws.{values-held}
use Rattle.fm_branch.proofs.Results.{if_ok}
use Rattle.fm_branch.specs.Held.{Places, held_in}
use Rattle.fm_branch.proofs.held.HeldLinks.rows.Goals as goal

pub returns : goal.returns
returns c =
    if_ok c.rows_of.result c.rows_of.ensures.rows (λ rows is.
    is ∙ sym (values-held c.self.inside.places.entries c.rows_of.ensures.ordered) ∙ ap (λ (m : Places). maps.values (held_in m)) c.self.view_is)
