use Rattle.std.proofs.Common.{◌≡◌, ◌+◌, List, take, ap, sym, ◌∙◌}
use Rattle.dl_base.specs.declared.value.LinkRow.{LinkRow}
use Rattle.fm_branch.proofs.HeldLaws.{have-kept, keeps-then}
use Rattle.fm_branch.proofs.Lists.{all-first}
use Rattle.fm_branch.specs.Held.{has_place, have_places}
use Rattle.meaning_areas.specs.Branches.{Branch}
use Rattle.fm_branch.proofs.settle.make_places.Goals as goal

pub loop-link-preserved : goal.loop-link-preserved
loop-link-preserved c =
    let items = c.as_slice-link-items.result.now in
    let takes = c.args.entry.now.moved.takes in
    let i = c.loop-link.link-index in
    let later = c.make_place.new.self in
    let same : items ≡ takes = c.as_slice-link-items.ensures ∙ ap (λ (b : Branch). b.moved.takes) c.entry.view_is in
    record {
      made = ap (λ (l : List LinkRow). have_places later (take (i + 1) l)) (sym same)
          ∙ all-first (λ (l : LinkRow). has_place later l.path) items i c.link-item.result c.loop-link-test.true c.link-item.is
          (ap (λ (l : List LinkRow). have_places later (take i l)) same ∙ have-kept c.loop-link.held later (take i takes) c.in_ok-make_place.ensures.places c.loop-link.invariant.made)
          c.in_ok-make_place.ensures.made;
      held = c.in_ok-make_place.ensures.held ∙ c.loop-link.invariant.held;
      places = keeps-then c.args.held.now c.loop-link.held later c.loop-link.invariant.places c.in_ok-make_place.ensures.places;
    }
