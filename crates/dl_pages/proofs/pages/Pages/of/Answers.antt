use Rattle.std.proofs.Common.{◌≡◌, ◌++◌, ◌∙◌, sym, ap, arith}
use Rattle.std.proofs.lemmas.List.{append-nil}
use Rattle.dl_pages.specs.Listing.{flatten}
use Rattle.dl_pages.proofs.Gathering.{item_taken, row_ends, row_put}
use Rattle.dl_pages.proofs.pages.Pages.of.Goals as goal
use Rattle.dl_pages.proofs.pages.Pages.of.Goals.{then-len-eq-MOST_ITEMS+in_ok-of_row+in_ok-push+in_ok-row-2, else-len-eq-MOST_ITEMS}

pub loop-item-init : goal.loop-item-init
loop-item-init g c = ap (λ l. flatten l ++ (c.in_ok-row.row.items ++ c.into_iter-item-iterator.result.rest.items)) c.new-parts.ensures.items ∙ ap (λ l. l ++ c.into_iter-item-iterator.result.rest.items) c.in_ok-row.ensures ∙ c.into_iter-item-iterator.ensures.into_iter_gives.0 ∙ c.into_vec-item-items.ensures

pub loop-item-preserved : goal.loop-item-preserved
loop-item-preserved g c =
    let same : flatten c.if-len-eq-MOST_ITEMS.parts.items ++ c.if-len-eq-MOST_ITEMS.row.items ≡ flatten c.loop-item.parts.items ++ c.loop-item.row.items = elim c.if-len-eq-MOST_ITEMS.branch [ then-len-eq-MOST_ITEMS+in_ok-of_row+in_ok-push+in_ok-row-2 w ↦ grind (arith, row_put, append-nil) | else-len-eq-MOST_ITEMS w ↦ grind (arith) ] in
    item_taken (flatten c.loop-item.parts.items) (flatten c.if-len-eq-MOST_ITEMS.parts.items) c.loop-item.row.items c.if-len-eq-MOST_ITEMS.row.items c.loop-item.item-iterator.rest.items c.next.new.self.rest.items c.args.items c.push-in-loop-item.new.self.items c.in-Some.item same c.in_ok-push-2.ensures.items c.in-Some.ensures.steps.0 c.loop-item.invariant

pub returns : goal.returns
returns g c = c.in_ok-gathered.ensures ∙ row_put c.loop-item.parts.items c.push-2.new.self.items c.in_ok-of_row-2.field-0 c.loop-item.row.items c.in_ok-push-3.ensures.items c.in_ok-of_row-2.ensures ∙ row_ends (flatten c.loop-item.parts.items) c.loop-item.row.items c.loop-item.item-iterator.rest.items c.args.items (sym c.loop-item.item-iterator.rest.ok.0 ∙ c.in-None.ensures.steps.0) c.loop-item.invariant
