use Rattle.std.proofs.Common.{◌≡◌, ◌++◌, take, ◌∙◌, ap, subst, arith}
use Rattle.dl_pages.specs.Listing.{flatten, HasRank}
use Rattle.dl_pages.proofs.Parts.{push_kept, take_set, flatten_push}
use Rattle.dl_pages.proofs.tree.Page.push.Goals as goal

pub invariant_of-self : goal.invariant_of-self
invariant_of-self g c =
    let items : _ ≡ c.args.part.0 = ap (λ v. v.0) c.part.view_is in
    push_kept g.T.Ranked.rank c.self.inside.used c.self.inside.rank c.part.inside.rank _ _ c.self.inside.parts c.args.part (grind (arith)) (grind (arith)) (grind (arith)) (grind (arith)) c.self.invariant.2 (subst (HasRank g.T.Ranked.rank c.part.inside.rank) items c.part.invariant.1) c.self.invariant.3 (λ e. grind (arith)) (λ e. grind (arith))

pub returns : goal.returns
returns g c = ap flatten (take_set c.self.inside.used c.self.inside.parts c.args.part (grind (arith))) ∙ flatten_push (take c.self.inside.used c.self.inside.parts) c.args.part ∙ ap (λ v. v.0 ++ c.args.part.0) c.self.view_is
