use Rattle.std.proofs.Common.{◌≡◌, ◌<◌, ◌≤◌, ◌-◌, ◌+◌, length, take, slice_index_or, refl, sym, ap, ◌∙◌, subst, arith}
use Rattle.std.proofs.lemmas.Bool.{false≢true, true≢false}
use Rattle.std.specs.List.{slice_set, remove}
use Rattle.dl_pages.specs.Listing.{seen, flatten, AreFilled, HasRank, IsSeat}
use Rattle.dl_pages.proofs.Taking.{seat_within, seat_part, part_below, set_same, flatten_taken, most_taken, taken_row, taken_kept}
use Rattle.dl_pages.proofs.tree.Part.+take.Goals as goal
use denote.Param.Weighed.{most}

pub returns-then-self-lt2-clause-taken : goal.returns-then-self-lt2-clause-taken
returns-then-self-lt2-clause-taken g t c = λ e. absurd (false≢true e)

pub returns-then-self-lt2-clause-some : goal.returns-then-self-lt2-clause-some
returns-then-self-lt2-clause-some g t c = λ e. absurd (false≢true e)

pub returns-then-self-lt2-clause-made : goal.returns-then-self-lt2-clause-made
returns-then-self-lt2-clause-made g t c = λ e. absurd (false≢true e)

pub returns-in-Nothing : goal.returns-in-Nothing
returns-in-Nothing g t c = record {
  taken = λ e. absurd (false≢true e);
  some = λ e. absurd (false≢true e);
  kept = λ _. c.self.view_is;
  high = ap (λ v. v.1) c.self.view_is;
  made = λ e. absurd (false≢true e);
  unmade = λ _. refl;
}

pub invariant_of-self-in_default : goal.invariant_of-self-in_default
invariant_of-self-in_default g t c = subst (λ xs. (c.self.inside.len ≡ length xs) × HasRank g.T.Ranked.rank c.self.inside.rank xs) (ap (λ b. (seen b).0) c.in-Leaf.is ∙ sym c.in_default.ensures.kept) c.self.invariant

pub returns-in_default : goal.returns-in_default
returns-in_default g t c =
    let whole : (c.in-Leaf.leaf.value, 0) ≡ c.args.self.now = ap seen (sym c.in-Leaf.is) ∙ c.self.view_is in
    record {
      taken = λ e. absurd (false≢true e);
      some = λ e. absurd (false≢true e);
      kept = λ _. ap (λ l. (l, 0)) c.in_default.ensures.kept ∙ whole;
      high = ap (λ v. v.1) whole;
      made = λ e. absurd (false≢true e);
      unmade = λ _. c.in_default.ensures.unmade;
    }

pub invariant_of-self-in-Leaf : goal.invariant_of-self-in-Leaf
invariant_of-self-in-Leaf g t c =
    let whole : (c.in-Leaf.leaf.value, 0) ≡ c.args.self.now = ap seen (sym c.in-Leaf.is) ∙ c.self.view_is in
    taken_row g.T.Ranked.rank c.self.inside.len c.in-Some.rank c.args.index c.in-Leaf.leaf.value c.take_of_leaf.new.leaf.value (c.self.invariant.0 ∙ ap (λ b. length (seen b).0) c.in-Leaf.is) (omega (arith, c.requires, ap (λ v. length v.0) whole)) c.in-Some.ensures.taken

pub returns-in-Some : goal.returns-in-Some
returns-in-Some g t c =
    let whole : (c.in-Leaf.leaf.value, 0) ≡ c.args.self.now = ap seen (sym c.in-Leaf.is) ∙ c.self.view_is in
    record {
      taken = λ _. c.in-Some.ensures.taken.0 ∙ ap (λ v. remove v.0 c.args.index) whole;
      some = λ _. omega (arith, c.if-self-lt2.false, c.self.invariant.0, ap (λ v. length v.0) c.self.view_is);
      kept = λ e. absurd (true≢false e);
      high = ap (λ v. v.1) whole;
      made = λ _. c.in-Some.ensures.made;
      unmade = λ e. absurd (true≢false e);
    }

pub invariant_of-self-in_default-get_mut : goal.invariant_of-self-in_default-get_mut
invariant_of-self-in_default-get_mut g t c = subst (λ xs. (c.self.inside.len ≡ length xs) × HasRank g.T.Ranked.rank c.self.inside.rank xs) (ap (λ b. (seen b).0) c.in-Page.is) c.self.invariant

pub returns-in_default-get_mut : goal.returns-in_default-get_mut
returns-in_default-get_mut g t c = record {
  taken = λ e. absurd (false≢true e);
  some = λ e. absurd (false≢true e);
  kept = λ _. ap seen (sym c.in-Page.is) ∙ c.self.view_is;
  high = ap (λ v. v.1) (ap seen (sym c.in-Page.is) ∙ c.self.view_is);
  made = λ e. absurd (false≢true e);
  unmade = λ _. refl;
}

pub invariant_of-self-in_default-seat : goal.invariant_of-self-in_default-seat
invariant_of-self-in_default-seat g t c = subst (λ xs. (c.self.inside.len ≡ length xs) × HasRank g.T.Ranked.rank c.self.inside.rank xs) (ap (λ b. (seen b).0) c.in-Page.is ∙ ap (λ v. v.0) (sym c.in-Some-get_mut.ensures.value)) c.self.invariant

pub returns-in_default-seat : goal.returns-in_default-seat
returns-in_default-seat g t c =
    let whole : (c.in-Some-get_mut.page.now.0, c.in-Some-get_mut.page.now.1 + 1) ≡ c.args.self.now = ap (λ v. (v.0, v.1 + 1)) c.in-Some-get_mut.ensures.value ∙ ap seen (sym c.in-Page.is) ∙ c.self.view_is in
    record {
      taken = λ e. absurd (false≢true e);
      some = λ e. absurd (false≢true e);
      kept = λ _. whole;
      high = ap (λ v. v.1) whole;
      made = λ e. absurd (false≢true e);
      unmade = λ _. refl;
    }

pub take-requires : goal.take-requires
take-requires g t c κs lives =
    let seat : IsSeat (take c.page.inside.used c.page.inside.parts) c.args.index c.in-Some-seat.at c.in-Some-seat.left = c.in-Some-seat.ensures in
    let whole : (flatten (take c.page.inside.used c.page.inside.parts), most (λ v. v.1 + 1) c.page.inside.parts + 1) ≡ c.args.self.now = ap (λ v. (v.0, v.1 + 1)) (c.page.view_is ∙ c.in-Some-get_mut.ensures.value) ∙ ap seen (sym c.in-Page.is) ∙ c.self.view_is in
    let within : c.in-Some-seat.at < length c.page.inside.parts = (seat_within c.page.inside.used c.args.index c.in-Some-seat.at c.in-Some-seat.left c.page.inside.parts seat).1 in
    let low : (slice_index_or c.page.inside.parts c.in-Some-seat.at c.index-page-at.result).1 < most (λ v. v.1 + 1) c.page.inside.parts = part_below c.in-Some-seat.at c.page.inside.parts c.index-page-at.result within in
    (omega (arith, low, ap (λ v. v.1) whole, c.decreases), (lives.0, (lives.1, seat_part c.page.inside.used c.args.index c.in-Some-seat.at c.in-Some-seat.left c.page.inside.parts c.index-page-at.result seat)))

pub invariant_of-page : goal.invariant_of-page
invariant_of-page g t c =
    let seat : IsSeat (take c.page.inside.used c.page.inside.parts) c.args.index c.in-Some-seat.at c.in-Some-seat.left = c.in-Some-seat.ensures in
    let within : c.in-Some-seat.at < length c.page.inside.parts = (seat_within c.page.inside.used c.args.index c.in-Some-seat.at c.in-Some-seat.left c.page.inside.parts seat).1 in
    let same : slice_set c.page.inside.parts c.in-Some-seat.at c.take.new.self ≡ c.page.inside.parts = set_same c.in-Some-seat.at c.page.inside.parts c.take.new.self c.index-page-at.result within (c.take.ensures.kept c.if-not-take.true) in
    subst (λ ps. (c.page.inside.used ≤ 4) × (c.page.inside.len ≡ length (flatten (take c.page.inside.used ps))) × HasRank g.T.Ranked.rank c.page.inside.rank (flatten (take c.page.inside.used ps)) × AreFilled (take c.page.inside.used ps)) (sym same) c.page.invariant

pub invariant_of-self-then-not-take : goal.invariant_of-self-then-not-take
invariant_of-self-then-not-take g t c =
    let seat : IsSeat (take c.page.inside.used c.page.inside.parts) c.args.index c.in-Some-seat.at c.in-Some-seat.left = c.in-Some-seat.ensures in
    let whole : (flatten (take c.page.inside.used c.page.inside.parts), most (λ v. v.1 + 1) c.page.inside.parts + 1) ≡ c.args.self.now = ap (λ v. (v.0, v.1 + 1)) (c.page.view_is ∙ c.in-Some-get_mut.ensures.value) ∙ ap seen (sym c.in-Page.is) ∙ c.self.view_is in
    let within : c.in-Some-seat.at < length c.page.inside.parts = (seat_within c.page.inside.used c.args.index c.in-Some-seat.at c.in-Some-seat.left c.page.inside.parts seat).1 in
    let same : slice_set c.page.inside.parts c.in-Some-seat.at c.take.new.self ≡ c.page.inside.parts = set_same c.in-Some-seat.at c.page.inside.parts c.take.new.self c.index-page-at.result within (c.take.ensures.kept c.if-not-take.true) in
    subst (λ xs. (c.self.inside.len ≡ length xs) × HasRank g.T.Ranked.rank c.self.inside.rank xs) (ap (λ v. v.0) (c.self.view_is ∙ sym whole) ∙ ap (λ ps. flatten (take c.page.inside.used ps)) (sym same)) c.self.invariant

pub returns-then-not-take : goal.returns-then-not-take
returns-then-not-take g t c =
    let seat : IsSeat (take c.page.inside.used c.page.inside.parts) c.args.index c.in-Some-seat.at c.in-Some-seat.left = c.in-Some-seat.ensures in
    let whole : (flatten (take c.page.inside.used c.page.inside.parts), most (λ v. v.1 + 1) c.page.inside.parts + 1) ≡ c.args.self.now = ap (λ v. (v.0, v.1 + 1)) (c.page.view_is ∙ c.in-Some-get_mut.ensures.value) ∙ ap seen (sym c.in-Page.is) ∙ c.self.view_is in
    let within : c.in-Some-seat.at < length c.page.inside.parts = (seat_within c.page.inside.used c.args.index c.in-Some-seat.at c.in-Some-seat.left c.page.inside.parts seat).1 in
    let same : slice_set c.page.inside.parts c.in-Some-seat.at c.take.new.self ≡ c.page.inside.parts = set_same c.in-Some-seat.at c.page.inside.parts c.take.new.self c.index-page-at.result within (c.take.ensures.kept c.if-not-take.true) in
    record {
      taken = λ e. absurd (false≢true e);
      some = λ e. absurd (false≢true e);
      kept = λ _. ap (λ ps. (flatten (take c.page.inside.used ps), most (λ v. v.1 + 1) ps + 1)) same ∙ whole;
      high = ap (λ ps. most (λ v. v.1 + 1) ps + 1) same ∙ ap (λ v. v.1) whole;
      made = λ e. absurd (false≢true e);
      unmade = λ _. c.take.ensures.unmade c.if-not-take.true;
    }

pub overflow_sub-page : goal.overflow_sub-page
overflow_sub-page g t c =
    let whole : (flatten (take c.page.inside.used c.page.inside.parts), most (λ v. v.1 + 1) c.page.inside.parts + 1) ≡ c.args.self.now = ap (λ v. (v.0, v.1 + 1)) (c.page.view_is ∙ c.in-Some-get_mut.ensures.value) ∙ ap seen (sym c.in-Page.is) ∙ c.self.view_is in
    let len : c.self.inside.len ≡ c.page.inside.len = c.self.invariant.0 ∙ ap (λ v. length v.0) (c.self.view_is ∙ sym whole) ∙ sym c.page.invariant.1 in
    omega (arith, len, c.if-self-lt2.false)

pub overflow_sub-self-in-Page : goal.overflow_sub-self-in-Page
overflow_sub-self-in-Page g t c = omega (arith, c.if-self-lt2.false)

pub invariant_of-page-in-Page : goal.invariant_of-page-in-Page
invariant_of-page-in-Page g t c =
    let seat : IsSeat (take c.page.inside.used c.page.inside.parts) c.args.index c.in-Some-seat.at c.in-Some-seat.left = c.in-Some-seat.ensures in
    taken_kept g.T.Ranked.rank c.page.inside.used c.page.inside.len c.first.inside.rank c.args.index c.in-Some-seat.at c.in-Some-seat.left c.page.inside.parts c.take.new.self c.index-page-at.result c.index-page-0.result c.page.invariant.0 c.page.invariant.1 c.page.invariant.3 seat (c.take.ensures.taken c.if-not-take.false) (c.take.ensures.some c.if-not-take.false) (subst (λ v. HasRank g.T.Ranked.rank c.first.inside.rank v.0) c.first.view_is c.first.invariant.1)

pub invariant_of-self-in-Page : goal.invariant_of-self-in-Page
invariant_of-self-in-Page g t c =
    let seat : IsSeat (take c.page.inside.used c.page.inside.parts) c.args.index c.in-Some-seat.at c.in-Some-seat.left = c.in-Some-seat.ensures in
    let whole : (flatten (take c.page.inside.used c.page.inside.parts), most (λ v. v.1 + 1) c.page.inside.parts + 1) ≡ c.args.self.now = ap (λ v. (v.0, v.1 + 1)) (c.page.view_is ∙ c.in-Some-get_mut.ensures.value) ∙ ap seen (sym c.in-Page.is) ∙ c.self.view_is in
    let len : c.self.inside.len ≡ c.page.inside.len = c.self.invariant.0 ∙ ap (λ v. length v.0) (c.self.view_is ∙ sym whole) ∙ sym c.page.invariant.1 in
    let kept = taken_kept g.T.Ranked.rank c.page.inside.used c.page.inside.len c.first.inside.rank c.args.index c.in-Some-seat.at c.in-Some-seat.left c.page.inside.parts c.take.new.self c.index-page-at.result c.index-page-0.result c.page.invariant.0 c.page.invariant.1 c.page.invariant.3 seat (c.take.ensures.taken c.if-not-take.false) (c.take.ensures.some c.if-not-take.false) (subst (λ v. HasRank g.T.Ranked.rank c.first.inside.rank v.0) c.first.view_is c.first.invariant.1) in
    (ap (λ k. k - 1) len ∙ kept.1, kept.2)

pub returns-else-not-take : goal.returns-else-not-take
returns-else-not-take g t c =
    let seat : IsSeat (take c.page.inside.used c.page.inside.parts) c.args.index c.in-Some-seat.at c.in-Some-seat.left = c.in-Some-seat.ensures in
    let whole : (flatten (take c.page.inside.used c.page.inside.parts), most (λ v. v.1 + 1) c.page.inside.parts + 1) ≡ c.args.self.now = ap (λ v. (v.0, v.1 + 1)) (c.page.view_is ∙ c.in-Some-get_mut.ensures.value) ∙ ap seen (sym c.in-Page.is) ∙ c.self.view_is in
    let within : c.in-Some-seat.at < length c.page.inside.parts = (seat_within c.page.inside.used c.args.index c.in-Some-seat.at c.in-Some-seat.left c.page.inside.parts seat).1 in
    record {
      taken = λ _. flatten_taken c.page.inside.used c.args.index c.in-Some-seat.at c.in-Some-seat.left c.page.inside.parts c.take.new.self c.index-page-at.result seat (c.take.ensures.taken c.if-not-take.false) ∙ ap (λ v. remove v.0 c.args.index) whole;
      some = λ _. omega (arith, c.if-self-lt2.false, c.self.invariant.0, ap (λ v. length v.0) c.self.view_is);
      kept = λ e. absurd (true≢false e);
      high = ap (λ k. k + 1) (most_taken c.in-Some-seat.at c.page.inside.parts c.take.new.self c.index-page-at.result within c.take.ensures.high) ∙ ap (λ v. v.1) whole;
      made = λ _. c.take.ensures.made c.if-not-take.false;
      unmade = λ e. absurd (true≢false e);
    }
