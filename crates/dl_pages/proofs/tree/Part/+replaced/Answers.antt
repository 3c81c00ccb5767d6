use Rattle.std.proofs.Common.{◌≡◌, sym, ◌∙◌, arith}
use Rattle.std.proofs.lemmas.Result.{IfOk-weaker}
use Rattle.dl_pages.specs.Listing.{flatten}
use Rattle.dl_pages.proofs.Parts.{below_split, replaced_page}
use Rattle.dl_pages.proofs.tree.Part.+replaced.Goals as goal

pub replaced-requires : goal.replaced-requires
replaced-requires g t c κs lives = (omega (arith, below_split c.in-Some.page.now.1 c.parts.result.now c.in-Some-find.spot.before.now c.in-Some-find.spot.behind.now c.in-Some-find.spot.part.now c.in-Some-find.ensures.split c.parts.ensures.below, c.in-Some.ensures.1, c.decreases), lives)

pub returns-in_ok-made-in-Some-find : goal.returns-in_ok-made-in-Some-find
returns-in_ok-made-in-Some-find g t c =
    let whole : c.args.self.now.0 ≡ flatten c.parts.result.now = sym c.in-Some.ensures.0 ∙ sym c.parts.ensures.items in
    IfOk-weaker c.page_of.result _ _ (λ page is. replaced_page c.parts.result.now c.in-Some-find.spot.before.now c.in-Some-find.spot.behind.now c.in-Some-find.spot.part.now c.in_ok-made-in-Some-find.made c.one.result.first c.one.result.second c.args.index c.in-Some-find.spot.index c.args.item c.args.self.now.0 page.0 whole c.in-Some-find.ensures.split c.in-Some-find.ensures.at c.in-Some-find.ensures.within is c.one.ensures.first c.one.ensures.second c.in_ok-made-in-Some-find.ensures) c.page_of.ensures
