use Rattle.std.proofs.Common.{◌≡◌, None, false, ap, sym, ◌∙◌, rules}
use Rattle.std.specs.FinMap as maps
use Rattle.fm_branch.proofs.HeldLaws.{held-new, no_place, place-new, places-kept}
use Rattle.fm_branch.proofs.Results.{by_result, on_ok}
use Rattle.fm_branch.specs.Held.{Entries, Places, has_place, held_in}
use Rattle.fm_branch.proofs.held.HeldLinks.make_place.Goals as goal

pub returns-clause-made : goal.returns-clause-made
returns-clause-made c =
    on_ok c.insert.result c.insert.ensures.ok (λ is.
    ap (λ (m : Places). has_place m c.args.path.now) is ∙ place-new (maps.from_entries c.self.inside.places.entries) c.args.path.now None)

pub returns-clause-held : goal.returns-clause-held
returns-clause-held c =
    let old : Places = maps.from_entries c.self.inside.places.entries in
    let p = c.args.path.now in
    let none : has_place old p ≡ false = ap (λ (m : Places). has_place m p) c.self.view_is ∙ sym c.has_place.ensures ∙ search rules in
    by_result c.insert.result c.insert.ensures.ok c.insert.ensures.err
    (λ is. ap held_in is ∙ held-new old p (no_place old p none) ∙ ap held_in c.self.view_is)
    (λ is. ap (λ (es : Entries). held_in (maps.from_entries es)) is ∙ ap held_in c.self.view_is)

pub returns-clause-places : goal.returns-clause-places
returns-clause-places c q was =
    let old : Places = maps.from_entries c.self.inside.places.entries in
    by_result c.insert.result c.insert.ensures.ok c.insert.ensures.err
    (λ is. ap (λ (m : Places). has_place m q) is ∙ places-kept old c.args.path.now None q (ap (λ (m : Places). has_place m q) c.self.view_is ∙ was))
    (λ is. ap (λ (es : Entries). has_place (maps.from_entries es) q) is ∙ ap (λ (m : Places). has_place m q) c.self.view_is ∙ was)
