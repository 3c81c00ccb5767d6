use Rattle.std.proofs.Common.{◌≡◌, ◌+◌, ◌++◌, ℕ, Bool, List, drop, arith, ap, sym, ◌∙◌, Ok, Err}
use Rattle.std.specs.Bool.{then_some}
use Rattle.dl_codec.specs.Layout.{whole}
use Rattle.dl_codec.specs.Links.{links_record}
use Rattle.dl_journal.specs.Records.{size}
use Rattle.meaning_areas.specs.Areas.{branches_of, links_body}
use Rattle.meaning_areas.specs.Folds.{folded}
use Rattle.fm_branch.specs.Linked.{prepared_by}
use Rattle.fm_branch.proofs.Folding.{accepted, place_below, place_next, prepared_next, refused}
use Rattle.fm_branch.proofs.fold.fold.Goals as goal

pub returns-in-Ok-false-clause-refused : goal.returns-in-Ok-false-clause-refused
returns-in-Ok-false-clause-refused c place is =
    let items = c.as_slice-body-items.result.now in
    let i = c.loop-body.body-index in
    let same : c.loop-body.place ≡ place = cc in
    let none = c.in-Ok-false.ensures.links ∙ ap (λ (b : Bool). then_some b c.take_record.new.history.links) c.in-Ok-false.field-0-test in
    let bad = refused items i c.loop-body.place c.body-item.result c.body-item.result c.loop-body-test.true c.body-item.is c.loop-body.history.links c.loop-body.invariant.links
    (ap (λ (b : List ℕ). links_body c.loop-body.history.links b) (sym c.bytes.ensures) ∙ none) in
    ap (λ (xs : List (List ℕ)). branches_of xs) (sym c.as_slice-body-items.ensures) ∙ bad ∙ ap (λ (at : ℕ). Err at) same

pub overflow_add-place-in-Ok-true : goal.overflow_add-place-in-Ok-true
overflow_add-place-in-Ok-true c =
    let below = place_below c.as_slice-body-items.result.now c.loop-body.body-index c.loop-body.place c.body-item.result c.body-item.result c.loop-body-test.true c.body-item.is c.loop-body.invariant.place in
    omega (arith, below, c.len.ensures, ap size c.as_slice-body-items.ensures, c.requires)

pub loop-body-preserved : goal.loop-body-preserved
loop-body-preserved c =
    let items = c.as_slice-body-items.result.now in
    let i = c.loop-body.body-index in
    let later = c.take_record.new.history in
    let yes = c.in-Ok-true.field-0-test in
    let some = c.in-Ok-true.ensures.links ∙ ap (λ (b : Bool). then_some b c.take_record.new.history.links) yes in
    record {
      links = ap (λ (n : ℕ). folded links_body (c.loop-body.place + (9 + n)) (Ok later.links) (drop (i + 1) items)) c.len.ensures
          ∙ accepted items i c.loop-body.place c.body-item.result c.body-item.result c.loop-body-test.true c.body-item.is c.loop-body.history.links c.loop-body.invariant.links
          later.links (ap (λ (b : List ℕ). links_body c.loop-body.history.links b) (sym c.bytes.ensures) ∙ some);
      prepared = prepared_next items i c.body-item.result c.loop-body-test.true c.body-item.is c.loop-body.history.prepared later.prepared c.loop-body.invariant.prepared
          (c.in-Ok-true.ensures.prepared yes ∙ ap (λ (b : List ℕ). c.loop-body.history.prepared ++ prepared_by (whole links_record b)) c.bytes.ensures);
      place = ap (λ (n : ℕ). c.loop-body.place + (9 + n)) c.len.ensures
          ∙ place_next items i c.loop-body.place c.body-item.result c.body-item.result c.loop-body-test.true c.body-item.is c.loop-body.invariant.place;
    }
