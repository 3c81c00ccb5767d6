-- One turn of a run.
use Rattle.std.proofs.Common.{◌≡◌, ℕ, zero, suc, Bool, if◌then◌else◌, List, [], ◌∷◌, ◌++◌, take, drop, slice_get, Option, Some, None, refl, sym, ap, ◌∙◌, subst}
use Rattle.std.proofs.lemmas.List.{take-append-drop}
use Rattle.dl_areas.specs.Lists.{HasLists, Journals, Lists, puts}
use Rattle.dl_areas.specs.Writing.{IsTelling, full_in}
use Rattle.dl_base.specs.Outside.{CrashState, Outside, extended}
use Rattle.dl_base.specs.declared.answer.Answer.{Answer}
use Rattle.dl_base.specs.declared.step.Step.{Step}
use Rattle.fm_manager.specs.Managed.{as_writes}
use Rattle.meaning_areas.specs.Lists.{Written}
use Rattle.meaning_run.specs.Built.{is_built}
use Rattle.meaning_run.specs.Running.{Read, Run, actor_state, after, by_kind, by_right, comes_to, met, next_step, pending_links, step_in, step_on, step_writes, stepped, text_of, turn, turn_on, turned, written}
use Rattle.meaning_script.specs.Actors.{is_extra}
use Rattle.meaning_script.specs.Expansion.{Then, does, given, answered, silent, expansion}
use Rattle.meaning_script.specs.declared.kind.Line.{Line}
use Rattle.meaning_system.specs.Machine.{step}
use Rattle.meaning_system.specs.Recovering.{Recovers}
use Rattle.meaning_system.specs.State.{State}
use Rattle.sys_recovery.specs.Left.{areas_of, has_commit}
use Rattle.sys_run.specs.Running.{IsInRun, IsPrefix, resting}
use Rattle.sys_run.specs.Turning.{IsBetween, IsInLine}
use Rattle.sys_run.proofs.Images.{assoc, nil, none-full}

-- ---- what a turn comes to

-- of a run at a line whose actor has acted, by what its kind says
module _ (number : ℕ) (line : Line) (done : List Answer) (r : Run) (l : Read) (more : List Read) (is : IsInLine number line done r l more) where
  met-is : met r l.actor ≡ r
  met-is = ap (λ (actors : List (List ℕ)). record r { actors = actors }) is.acted

  pub comes-is : comes_to r l ≡ expansion line (actor_state r line) done (pending_links r.state)
  unfolding comes_to
  comes-is =
      ap (λ (q : Run). by_right q l.line (is_extra r.actors l.actor)) met-is
      ∙ ap (λ (b : Bool). by_right r l.line b) is.right
      ∙ ap (λ (k : Line). by_kind r k (is_built k)) is.line_is
      ∙ ap (λ (b : Bool). by_kind r line b) is.built
      ∙ ap (λ (d : List Answer). expansion line (actor_state r line) d (pending_links r.state)) is.answers

  pub turn-is : (t : Then) → expansion line (actor_state r line) done (pending_links r.state) ≡ t → turn r ≡ turned r l more t
  unfolding turn
  turn-is t comes = ap (turn_on r) is.lines ∙ ap (λ (q : Run). turned q l more (comes_to r l)) met-is ∙ ap (turned r l more) (comes-is ∙ comes)

  pub next-is : (t : Then) → expansion line (actor_state r line) done (pending_links r.state) ≡ t → next_step r ≡ step_in t
  next-is t comes = ap (step_on r) is.lines ∙ ap step_in (comes-is ∙ comes)

-- of a run whose actor is met
module _ (r : Run) (l : Read) (more : List Read) (lines : r.lines ≡ l ∷ more) where
  pub turn-on : (t : Then) → comes_to r l ≡ t → turn r ≡ turned (met r l.actor) l more t
  unfolding turn
  turn-on t comes = ap (turn_on r) lines ∙ ap (turned (met r l.actor) l more) comes

  pub next-on : (t : Then) → comes_to r l ≡ t → next_step r ≡ step_in t
  next-on t comes = ap (step_on r) lines ∙ ap step_in comes

-- what was told stays told
pub told-grows : (r : Run) → IsPrefix r.told (turn r).told
unfolding turn
told-grows r = by r.lines
  where
    on : (l : Read) (more : List Read) (t : Then) → IsPrefix r.told (turned (met r l.actor) l more t).told
    on l more (does x) = ([], sym (nil r.told))
    on l more (given k) = (text_of (met r l.actor) (slice_get r.answers k), refl)
    on l more (answered a) = (text_of (met r l.actor) (Some a), refl)
    on l more silent = ([], refl)

    by : (ls : List Read) → IsPrefix r.told (turn_on r ls).told
    by [] = ([], sym (nil r.told))
    by (l ∷ more) = on l more (comes_to r l)

-- ---- records

pub written-one : (r : Run) (o : Option Step) → next_step r ≡ o → written 1 r ≡ step_writes r.state o
written-one r o next = nil (step_writes r.state (next_step r)) ∙ ap (step_writes r.state) next

-- ---- moments

-- A moment of a step: some of its records are left, and the areas recover to the state before it, or, once the commit of a restore is there,
-- to that behind it; or none is, and they recover to that behind it
pub moment-before : (js : Journals) (lists : Lists) (r : Run) (before : Option (List ℕ)) (o : Outside) (p : CrashState) → o.told ≡ extended r.told before → o.told ≡ Some p.told
    → (front rest : List Written) → front ++ rest ≡ step_writes r.state (next_step r) → Recovers (areas_of p) (resting r front) → HasLists (puts (as_writes front) lists) p → full_in js (as_writes front) ≡ None → IsInRun js lists r before p
moment-before js lists r before o p told at front rest parts recovers has fits = record {
  count = 0;
  recovers = recovers;
  front = front;
  rest = rest;
  parts = parts;
  has = has;
  fits = fits;
  said = r.told;
  told = sym told ∙ at;
  not_behind = ([], sym (nil r.told));
  not_ahead = told-grows r;
}

pub moment-behind : (js : Journals) (lists : Lists) (r : Run) (x : Step) (before : Option (List ℕ)) (o : Outside) (p : CrashState) → turn r ≡ stepped r x → o.told ≡ extended r.told before → o.told ≡ Some p.told → Recovers (areas_of p) (step r.state x).1
    → (all : List Written) → all ≡ written 1 r → HasLists (puts (as_writes all) lists) p → full_in js (as_writes all) ≡ None → IsInRun js lists r before p
moment-behind js lists r x before o p is told at recovers all are has fits =
    let same : r.told ≡ (turn r).told = ap (λ (q : Run). q.told) (sym is) in
    let these : all ≡ written 1 r ++ [] = are ∙ sym (nil (written 1 r)) in
    record {
      count = 1;
      recovers = subst (λ (s : State). Recovers (areas_of p) s) (ap (λ (q : Run). q.state) (sym is)) recovers;
      front = [];
      rest = step_writes (turn r).state (next_step (turn r));
      parts = refl;
      has = subst (λ (xs : List Written). HasLists (puts (as_writes xs) lists) p) these has;
      fits = ap (λ (xs : List Written). full_in js (as_writes xs)) (sym these) ∙ fits;
      said = r.told;
      told = sym told ∙ at;
      not_behind = ([], same ∙ sym (nil (turn r).told));
      not_ahead = subst (λ (t : List ℕ). IsPrefix t (turn (turn r)).told) (sym same) (told-grows (turn r));
    }

-- a moment while a line is told
pub moment-telling : (r : Run) (next : Run) (text : List ℕ) (before : Option (List ℕ)) (lists : Lists) (o : Outside) (p : CrashState) → next.told ≡ r.told ++ text → o.told ≡ extended r.told before → IsTelling lists text o p
    → Recovers (areas_of p) r.state → IsBetween lists r next before p
moment-telling r next text before lists o p ahead told m recovers =
    let (n, was, at, is) = m.told in
    record {
      has = m.has;
      recovers = recovers;
      said = r.told ++ take n text;
      told = by before was n (sym told ∙ at) is;
      not_behind = (take n text, refl);
      not_ahead = (drop n text, ahead ∙ ap (λ (t : List ℕ). r.told ++ t) (sym (take-append-drop n text)) ∙ sym (assoc r.told (take n text) (drop n text)));
    }
  where
    by : (b : Option (List ℕ)) (was : List ℕ) (n : ℕ) → extended r.told b ≡ Some was → p.told ≡ was ++ take n text → extended (r.told ++ take n text) b ≡ Some p.told
    by None was n at is = absurd cc
    by (Some b) was n at is = ap (λ (t : List ℕ). Some t) (sym (is ∙ ap (λ (t : List ℕ). t ++ take n text) (sym (some-is (b ++ r.told) was at)) ∙ assoc b r.told (take n text)))
      where
        some-is : (x y : List ℕ) → Some x ≡ Some y → x ≡ y
        some-is x y e = cc

-- a moment between a run and its next turn is one of the run
pub moment-between : (js : Journals) (lists : Lists) (r : Run) (next : Run) (before : Option (List ℕ)) (p : CrashState) → turn r ≡ next → IsBetween lists r next before p → IsInRun js lists r before p
moment-between js lists r next before p is m = record {
  count = 0;
  recovers = m.recovers;
  front = [];
  rest = step_writes r.state (next_step r);
  parts = refl;
  has = m.has;
  fits = none-full js;
  said = m.said;
  told = m.told;
  not_behind = m.not_behind;
  not_ahead = subst (λ (q : Run). IsPrefix m.said q.told) (sym is) m.not_ahead;
}

-- a run with its first actor met makes the same turns
pub met-later : (js : Journals) (lists : Lists) (r q : Run) (before : Option (List ℕ)) (p : CrashState) → turn q ≡ turn r → next_step q ≡ next_step r → q.state ≡ r.state → q.told ≡ r.told → IsInRun js lists q before p → IsInRun js lists r before p
met-later js lists r q before p same next state told m = by m.count m.recovers m.parts m.has m.fits m.not_behind m.not_ahead
  where
    by : (n : ℕ) → Recovers (areas_of p) (resting (after n q) m.front) → m.front ++ m.rest ≡ step_writes (after n q).state (next_step (after n q)) → HasLists (puts (as_writes (written n q ++ m.front)) lists) p
        → full_in js (as_writes (written n q ++ m.front)) ≡ None → IsPrefix (after n q).told m.said → IsPrefix m.said (after (suc n) q).told → IsInRun js lists r before p
    by zero recovers parts has fits behind ahead = record {
      count = 0;
      recovers = subst (Recovers (areas_of p)) (λ i. if has_commit m.front then (same i).state else state i) recovers;
      front = m.front;
      rest = m.rest;
      parts = parts ∙ (λ i. step_writes (state i) (next i));
      has = has;
      fits = fits;
      said = m.said;
      told = m.told;
      not_behind = subst (λ (t : List ℕ). IsPrefix t m.said) told behind;
      not_ahead = subst (λ (z : Run). IsPrefix m.said z.told) same ahead;
    }
    by (suc n) recovers parts has fits behind ahead =
        let these : written (suc n) q ≡ written (suc n) r = (λ i. step_writes (state i) (next i) ++ written n (same i)) in
        record {
          count = suc n;
          recovers = subst (λ (z : Run). Recovers (areas_of p) (resting (after n z) m.front)) same recovers;
          front = m.front;
          rest = m.rest;
          parts = parts ∙ ap (λ (z : Run). step_writes (after n z).state (next_step (after n z))) same;
          has = subst (λ (xs : List Written). HasLists (puts (as_writes (xs ++ m.front)) lists) p) these has;
          fits = ap (λ (xs : List Written). full_in js (as_writes (xs ++ m.front))) (sym these) ∙ fits;
          said = m.said;
          told = m.told;
          not_behind = subst (λ (z : Run). IsPrefix (after n z).told m.said) same behind;
          not_ahead = subst (λ (z : Run). IsPrefix m.said (after (suc n) z).told) same ahead;
        }
