use Rattle.std.proofs.Common.{◌≡◌, ◌∷◌, ◌+◌, length, take, drop, sym, ◌∙◌, ap, subst, arith}
use Rattle.std.specs.List.{slice_get}
use Rattle.std.specs.Option.{option_copied}
use Rattle.dl_pages.specs.Listing.{flatten}
use Rattle.dl_pages.specs.Points.{IsPartitioned, IsPartitionPoint}
use Rattle.dl_pages.proofs.Turns.{some_parts, below_at, len_three, filled_at, item_within, item_past, point_at}
use Rattle.dl_pages.proofs.tree.Part.+first_failing.Goals as goal

pub entry-requires-clause-some : goal.entry-requires-clause-some
entry-requires-clause-some g t c = some_parts c.parts-parts.result.now (omega (arith, ap length c.parts-parts.ensures.items, ap length c.in-Some.ensures.0, c.if-self-eq0.false, c.self.invariant.0, ap (λ v. length v.0) c.self.view_is))

pub first_failing-within-requires : goal.first_failing-within-requires
first_failing-within-requires g t c κs lives = (omega (arith, below_at c.in-Some.page.now.1 c.entry.result c.parts-parts.result.now c.in-Some-split_first.behind.now c.in-Some-split_first.part.now (sym c.split_at.ensures.back ∙ c.in-Some-split_first.ensures.cases.0) c.parts-parts.ensures.below, c.in-Some.ensures.1, c.decreases), (lives.0, (lives.1, c.requires)))

pub returns-in-None-clause-item : goal.returns-in-None-clause-item
returns-in-None-clause-item g t c = c.first_failing_of.ensures.item ∙ ap (λ l. slice_get l c.first_failing_of.result.0) c.row.ensures

pub count-requires : goal.count-requires
count-requires g t c =
    let whole : c.args.self.now.0 ≡ flatten c.parts-parts.result.now = sym c.in-Some.ensures.0 ∙ sym c.parts-parts.ensures.items in
    let is : drop c.entry.result c.parts-parts.result.now ≡ c.in-Some-split_first.part.now ∷ c.in-Some-split_first.behind.now = sym c.split_at.ensures.back ∙ c.in-Some-split_first.ensures.cases.0 in
    rw c.split_at.ensures.front (omega (arith, len_three c.entry.result 0 c.parts-parts.result.now c.in-Some-split_first.behind.now c.in-Some-split_first.part.now is (omega arith), ap length whole, ap (λ v. length v.0) c.self.view_is, c.self.invariant.0))

pub overflow_add-place : goal.overflow_add-place
overflow_add-place g t c =
    let whole : c.args.self.now.0 ≡ flatten c.parts-parts.result.now = sym c.in-Some.ensures.0 ∙ sym c.parts-parts.ensures.items in
    let is : drop c.entry.result c.parts-parts.result.now ≡ c.in-Some-split_first.part.now ∷ c.in-Some-split_first.behind.now = sym c.split_at.ensures.back ∙ c.in-Some-split_first.ensures.cases.0 in
    let at : length (flatten (take c.entry.result c.parts-parts.result.now)) + c.first_failing-within.result.0 ≡ c.count.result + c.first_failing-within.result.0 = ap (λ ps. length (flatten ps) + c.first_failing-within.result.0) (sym c.split_at.ensures.front) ∙ ap (λ k. k + c.first_failing-within.result.0) (sym c.count.ensures) in
    omega (arith, len_three c.entry.result c.first_failing-within.result.0 c.parts-parts.result.now c.in-Some-split_first.behind.now c.in-Some-split_first.part.now is c.first_failing-within.ensures.within, ap length whole, at, ap (λ v. length v.0) c.self.view_is, c.self.invariant.0)

pub first_of-requires : goal.first_of-requires
first_of-requires g t c = (filled_at c.entry.result c.parts-parts.result.now c.in-Some-split_first.behind.now c.in-Some-split_first.part.now (sym c.split_at.ensures.back ∙ c.in-Some-split_first.ensures.cases.0) c.parts-parts.ensures.filled).1

pub returns-in-Some-item-clause-within : goal.returns-in-Some-item-clause-within
returns-in-Some-item-clause-within g t c =
    let whole : c.args.self.now.0 ≡ flatten c.parts-parts.result.now = sym c.in-Some.ensures.0 ∙ sym c.parts-parts.ensures.items in
    let is : drop c.entry.result c.parts-parts.result.now ≡ c.in-Some-split_first.part.now ∷ c.in-Some-split_first.behind.now = sym c.split_at.ensures.back ∙ c.in-Some-split_first.ensures.cases.0 in
    let at : length (flatten (take c.entry.result c.parts-parts.result.now)) + c.first_failing-within.result.0 ≡ c.count.result + c.first_failing-within.result.0 = ap (λ ps. length (flatten ps) + c.first_failing-within.result.0) (sym c.split_at.ensures.front) ∙ ap (λ k. k + c.first_failing-within.result.0) (sym c.count.ensures) in
    omega (arith, len_three c.entry.result c.first_failing-within.result.0 c.parts-parts.result.now c.in-Some-split_first.behind.now c.in-Some-split_first.part.now is c.first_failing-within.ensures.within, ap length whole, at)

pub returns-in-Some-item-clause-point : goal.returns-in-Some-item-clause-point
returns-in-Some-item-clause-point g t c =
    let whole : c.args.self.now.0 ≡ flatten c.parts-parts.result.now = sym c.in-Some.ensures.0 ∙ sym c.parts-parts.ensures.items in
    let is : drop c.entry.result c.parts-parts.result.now ≡ c.in-Some-split_first.part.now ∷ c.in-Some-split_first.behind.now = sym c.split_at.ensures.back ∙ c.in-Some-split_first.ensures.cases.0 in
    let at : length (flatten (take c.entry.result c.parts-parts.result.now)) + c.first_failing-within.result.0 ≡ c.count.result + c.first_failing-within.result.0 = ap (λ ps. length (flatten ps) + c.first_failing-within.result.0) (sym c.split_at.ensures.front) ∙ ap (λ k. k + c.first_failing-within.result.0) (sym c.count.ensures) in
    subst (λ l. IsPartitioned (g.F.Predicate.test c.args.predicate.now) l → IsPartitionPoint (g.F.Predicate.test c.args.predicate.now) l (c.count.result + c.first_failing-within.result.0)) (sym whole) (point_at (g.F.Predicate.test c.args.predicate.now) c.entry.result c.first_failing-within.result.0 (c.count.result + c.first_failing-within.result.0) c.parts-parts.result.now c.in-Some-split_first.behind.now c.in-Some-split_first.part.now is c.parts-parts.ensures.filled c.entry.ensures.passing c.entry.ensures.failing c.first_failing-within.ensures.point at)

pub returns-in-Some-item-clause-item : goal.returns-in-Some-item-clause-item
returns-in-Some-item-clause-item g t c =
    let whole : c.args.self.now.0 ≡ flatten c.parts-parts.result.now = sym c.in-Some.ensures.0 ∙ sym c.parts-parts.ensures.items in
    let is : drop c.entry.result c.parts-parts.result.now ≡ c.in-Some-split_first.part.now ∷ c.in-Some-split_first.behind.now = sym c.split_at.ensures.back ∙ c.in-Some-split_first.ensures.cases.0 in
    let at : length (flatten (take c.entry.result c.parts-parts.result.now)) + c.first_failing-within.result.0 ≡ c.count.result + c.first_failing-within.result.0 = ap (λ ps. length (flatten ps) + c.first_failing-within.result.0) (sym c.split_at.ensures.front) ∙ ap (λ k. k + c.first_failing-within.result.0) (sym c.count.ensures) in
    sym (ap (λ l. slice_get l (c.count.result + c.first_failing-within.result.0)) whole ∙ item_within c.entry.result c.first_failing-within.result.0 (c.count.result + c.first_failing-within.result.0) c.parts-parts.result.now c.in-Some-split_first.behind.now c.in-Some-split_first.part.now c.in-Some-item.item.now is at (sym c.first_failing-within.ensures.item ∙ ap option_copied c.in-Some-item.is))

pub returns-in-None-item-clause-within : goal.returns-in-None-item-clause-within
returns-in-None-item-clause-within g t c =
    let whole : c.args.self.now.0 ≡ flatten c.parts-parts.result.now = sym c.in-Some.ensures.0 ∙ sym c.parts-parts.ensures.items in
    let is : drop c.entry.result c.parts-parts.result.now ≡ c.in-Some-split_first.part.now ∷ c.in-Some-split_first.behind.now = sym c.split_at.ensures.back ∙ c.in-Some-split_first.ensures.cases.0 in
    let at : length (flatten (take c.entry.result c.parts-parts.result.now)) + c.first_failing-within.result.0 ≡ c.count.result + c.first_failing-within.result.0 = ap (λ ps. length (flatten ps) + c.first_failing-within.result.0) (sym c.split_at.ensures.front) ∙ ap (λ k. k + c.first_failing-within.result.0) (sym c.count.ensures) in
    omega (arith, len_three c.entry.result c.first_failing-within.result.0 c.parts-parts.result.now c.in-Some-split_first.behind.now c.in-Some-split_first.part.now is c.first_failing-within.ensures.within, ap length whole, at)

pub returns-in-None-item-clause-point : goal.returns-in-None-item-clause-point
returns-in-None-item-clause-point g t c =
    let whole : c.args.self.now.0 ≡ flatten c.parts-parts.result.now = sym c.in-Some.ensures.0 ∙ sym c.parts-parts.ensures.items in
    let is : drop c.entry.result c.parts-parts.result.now ≡ c.in-Some-split_first.part.now ∷ c.in-Some-split_first.behind.now = sym c.split_at.ensures.back ∙ c.in-Some-split_first.ensures.cases.0 in
    let at : length (flatten (take c.entry.result c.parts-parts.result.now)) + c.first_failing-within.result.0 ≡ c.count.result + c.first_failing-within.result.0 = ap (λ ps. length (flatten ps) + c.first_failing-within.result.0) (sym c.split_at.ensures.front) ∙ ap (λ k. k + c.first_failing-within.result.0) (sym c.count.ensures) in
    subst (λ l. IsPartitioned (g.F.Predicate.test c.args.predicate.now) l → IsPartitionPoint (g.F.Predicate.test c.args.predicate.now) l (c.count.result + c.first_failing-within.result.0)) (sym whole) (point_at (g.F.Predicate.test c.args.predicate.now) c.entry.result c.first_failing-within.result.0 (c.count.result + c.first_failing-within.result.0) c.parts-parts.result.now c.in-Some-split_first.behind.now c.in-Some-split_first.part.now is c.parts-parts.ensures.filled c.entry.ensures.passing c.entry.ensures.failing c.first_failing-within.ensures.point at)

pub returns-in-None-item-clause-item : goal.returns-in-None-item-clause-item
returns-in-None-item-clause-item g t c =
    let whole : c.args.self.now.0 ≡ flatten c.parts-parts.result.now = sym c.in-Some.ensures.0 ∙ sym c.parts-parts.ensures.items in
    let is : drop c.entry.result c.parts-parts.result.now ≡ c.in-Some-split_first.part.now ∷ c.in-Some-split_first.behind.now = sym c.split_at.ensures.back ∙ c.in-Some-split_first.ensures.cases.0 in
    let at : length (flatten (take c.entry.result c.parts-parts.result.now)) + c.first_failing-within.result.0 ≡ c.count.result + c.first_failing-within.result.0 = ap (λ ps. length (flatten ps) + c.first_failing-within.result.0) (sym c.split_at.ensures.front) ∙ ap (λ k. k + c.first_failing-within.result.0) (sym c.count.ensures) in
    c.first_of.ensures ∙ sym (ap (λ l. slice_get l (c.count.result + c.first_failing-within.result.0)) whole ∙ item_past c.entry.result c.first_failing-within.result.0 (c.count.result + c.first_failing-within.result.0) c.parts-parts.result.now c.in-Some-split_first.behind.now c.in-Some-split_first.part.now is at c.first_failing-within.ensures.within (sym c.first_failing-within.ensures.item ∙ ap option_copied c.in-None-item.is))
