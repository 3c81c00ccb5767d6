use Rattle.std.proofs.Common.{◌++◌, ap, ◌∙◌}
use Rattle.dl_pages.specs.Listing.{flatten}
use Rattle.dl_pages.proofs.Gathering.{page_made}
use Rattle.dl_pages.proofs.tree.in_pages.Goals as goal

pub loop-few-init : goal.loop-few-init
loop-few-init g c = ap (λ l. flatten l ++ flatten c.into_iter-few-iterator.result.rest.now) c.new-made.ensures.items ∙ ap (λ i. flatten i.rest.now) c.into_iter-few-iterator.ensures.into_iter_gives ∙ ap flatten c.chunks-few-items.ensures.rest

pub loop-few-preserved : goal.loop-few-preserved
loop-few-preserved g c = page_made c.loop-few.made.items c.push.new.self.items c.in-Some.few.now c.loop-few.few-iterator.rest.now c.next.new.self.rest.now c.args.parts.now c.in_ok-page_of_parts.field-0 c.in_ok-push.ensures.items c.in_ok-page_of_parts.ensures c.in-Some.ensures.steps.1.0 c.loop-few.invariant
