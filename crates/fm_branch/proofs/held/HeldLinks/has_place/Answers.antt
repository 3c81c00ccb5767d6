use Rattle.std.proofs.Common.{is_some, sym, ap, ◌∙◌}
use Rattle.std.specs.Cmp.Lexicographic.{nat_list_cmp_total}
use Rattle.fm_branch.proofs.Maps.{get-of}
use Rattle.fm_branch.specs.Held.{Places, has_place}
use Rattle.fm_branch.proofs.held.HeldLinks.has_place.Goals as goal

pub returns : goal.returns
returns c =
    c.contains_key.ensures ∙ ap is_some (sym (get-of nat_list_cmp_total c.self.inside.places.entries c.args.path.now))
    ∙ ap (λ (m : Places). has_place m c.args.path.now) c.self.view_is
