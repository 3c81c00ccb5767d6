use Rattle.std.proofs.Common.{ap, ◌∙◌}
use Rattle.std.proofs.lemmas.Result.{IfOk-weaker}
use Rattle.dl_pages.specs.Listing.{flatten}
use Rattle.dl_pages.proofs.tree.gathered.Goals as goal

pub loop-preserved : goal.loop-preserved
loop-preserved g c = c.in_ok-parts.ensures ∙ ap flatten c.as_slice.ensures.value ∙ c.loop.invariant

pub returns : goal.returns
returns g c = IfOk-weaker c.lowered.result _ _ (λ made is. is ∙ c.in_ok-page.ensures ∙ ap flatten c.as_slice-2.ensures.value ∙ c.loop.invariant) c.lowered.ensures
