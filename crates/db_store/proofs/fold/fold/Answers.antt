use Rattle.std.proofs.Common.{◌≡◌, ◌+◌, ◌∙◌, ℕ, Bool, Err, Ok, ap, arith}
use Rattle.std.specs.Bool.{then_some}
use Rattle.std.specs.Vec.Iter.{into_iter_items}
use Rattle.dl_journal.specs.Records.{size}
use Rattle.meaning_areas.specs.Folds.{folded}
use Rattle.meaning_areas.specs.Areas.{rows_body}
use Rattle.db_store.proofs.Folding.{accepted, place_below, place_next, refused}
use Rattle.std.proofs.lemmas.Grind.{common_steps}
use Rattle.db_store.proofs.fold.fold.Goals as goal

pub returns-in-Ok-false-clause-refused : goal.returns-in-Ok-false-clause-refused
returns-in-Ok-false-clause-refused c place is =
    let same : c.loop-body.place ≡ place = cc in
    let none = c.in-Ok-false.ensures ∙ ap (λ (b : Bool). then_some b c.take_record.new.history) c.in-Ok-false.field-0-test in
    refused c.args.bodies (into_iter_items c.loop-body.body-iterator) (into_iter_items c.next.new.self) c.in-Some.body c.loop-body.place c.in-Some.ensures.steps.0
    c.loop-body.history c.loop-body.invariant.rows none
    ∙ ap (λ (at : ℕ). Err at) same

pub overflow_add-place-in-Ok-true : goal.overflow_add-place-in-Ok-true
overflow_add-place-in-Ok-true c =
    let below = place_below c.args.bodies (into_iter_items c.loop-body.body-iterator) (into_iter_items c.next.new.self) c.in-Some.body c.loop-body.place c.in-Some.ensures.steps.0 c.loop-body.invariant.place in
    omega (arith, below, c.len-len.ensures, c.requires)

pub loop-body-preserved : goal.loop-body-preserved
loop-body-preserved c =
    let left = into_iter_items c.loop-body.body-iterator in
    let rest = into_iter_items c.next.new.self in
    let later = c.take_record.new.history in
    let some = c.in-Ok-true.ensures ∙ ap (λ (b : Bool). then_some b later) c.in-Ok-true.field-0-test in
    record {
      rows = ap (λ (n : ℕ). folded rows_body (c.loop-body.place + (9 + n)) (Ok later) rest) c.len-len.ensures
          ∙ accepted c.args.bodies left rest c.in-Some.body c.loop-body.place c.in-Some.ensures.steps.0 c.loop-body.history c.loop-body.invariant.rows later some;
      place = ap (λ (n : ℕ). c.loop-body.place + (9 + n) + size rest) c.len-len.ensures
          ∙ place_next c.args.bodies left rest c.in-Some.body c.loop-body.place c.in-Some.ensures.steps.0 c.loop-body.invariant.place;
    }

pub returns-clause-rows : goal.returns-clause-rows
returns-clause-rows c = grind (arith, common_steps)

pub overflow_add-place : goal.overflow_add-place
overflow_add-place c = grind (arith, common_steps)
