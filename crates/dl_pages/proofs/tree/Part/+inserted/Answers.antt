use Rattle.std.proofs.Common.{◌≡◌, ◌++◌, sym, ◌∙◌, arith}
use Rattle.std.proofs.lemmas.Result.{IfOk-weaker}
use Rattle.dl_pages.specs.Listing.{flatten}
use Rattle.dl_pages.proofs.Parts.{inserted_page}
use Rattle.dl_pages.proofs.tree.Part.+inserted.Goals as goal

pub returns-in_ok-made-in-Some-find : goal.returns-in_ok-made-in-Some-find
returns-in_ok-made-in-Some-find g t c =
    let whole : c.args.self.now.0 ≡ flatten c.parts.result.now = sym c.in-Some.ensures.0 ∙ sym c.parts.ensures.items in
    IfOk-weaker c.parted.result _ _ (λ made is. inserted_page c.parts.result.now c.in-Some-find.spot.before.now c.in-Some-find.spot.behind.now c.in-Some-find.spot.part.now c.args.index c.saturating_sub-last.result c.in-Some-find.spot.index c.args.item (c.in_ok-made-in-Some-find.made.first.0 ++ c.in_ok-made-in-Some-find.made.second.0) c.args.self.now.0 _ whole c.in-Some-find.ensures.split c.in-Some-find.ensures.at c.in-Some-find.ensures.within (grind (arith)) (grind (arith)) is c.in_ok-made-in-Some-find.ensures) c.parted.ensures
