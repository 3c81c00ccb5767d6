-- Sets of numbers under names.
use Rattle.std.proofs.Common.{◌≡◌, ℕ, zero, suc, ◌+◌, ◌<◌, ◌≤◌, ◌==◌, ◌||◌, Bool, true, false, cond, List, [], ◌∷◌, length, get_or, bytes_eq, Some, None, Result, Ok, Err, OnOk, sym, ◌∙◌, ap, subst, refl, arith, ⊎_elim}
use Rattle.std.specs.Cmp.{IsTotalOrder}
use Rattle.std.specs.Cmp.Lexicographic.{bytes_decides, nat_list_cmp_total, nat_list_eq_equiv, pointwise, slice_cmp, texts_ties}
use Rattle.std.specs.List.{AllByRecursion, HoldsAt, insert, slice_set}
use Rattle.std.specs.List.Sorted.{IsBinarySearchResult, IsNonDecreasingBy, IsPartitionPoint, IsSearchInRange, IsStrictlySortedBy}
use Rattle.std.specs.Map.{lookup, set_value}
use Rattle.std.specs.Option.{IsSome}
use Rattle.std.specs.Ordering.{is_eq, is_lt, nat_cmp, ordering_index, ordering_reverse}
use Rattle.std.specs.Result.{MatchResult}
use Rattle.std.specs.declared.cmp.Ordering.{Ordering}
use Rattle.std.specs.declared.cmp.Ordering.TheVariants.{Less, Greater}
use Rattle.std.proofs.lemmas.Bool.{cases_lt}
use Rattle.std.proofs.lemmas.Cmp.{on_total}
use Rattle.std.proofs.lemmas.List.Elements.{recursion_from_All}
use Rattle.std.proofs.lemmas.List.Sorted.{searchable_from_sorted}
use Rattle.std.proofs.lemmas.Map.{NonePasses, lookup-insert, lookup-none, lookup-set_value}
use Rattle.std.proofs.lemmas.Map.Keys.{Less-from_sorted, sorted_tail}
use Rattle.std.proofs.lemmas.Map.Lookups.{exact_bytes}
use Rattle.dl_pages.specs.Sets.{WithMember, has}
use Rattle.sql_table.proofs.Marking.{eq-cmp}
use Rattle.db_changes.specs.Touched.{AllRise, Touched, among, listed, numbers_of}
use Rattle.db_changes.proofs.RowsTouched.{has-among}

pub no-numbers : IsStrictlySortedBy nat_cmp []
unfolding IsStrictlySortedBy
no-numbers = tt

pub numbers-rise : (touched : Touched) (name : List ℕ) → AllRise touched → IsStrictlySortedBy nat_cmp (numbers_of touched name)
numbers-rise [] name all = no-numbers
numbers-rise (t ∷ ts) name all = by (bytes_eq name t.0) (numbers-rise ts name all.1)
  where
    by : (b : Bool) → IsStrictlySortedBy nat_cmp (numbers_of ts name) → IsStrictlySortedBy nat_cmp (listed (cond b (Some t.1) (lookup (pointwise ◌==◌ name) ts)))
    by true go = all.0
    by false go = go

moved : (x r s m : Bool) → ((x || r) || m) ≡ s → (r || (x || m)) ≡ s
moved true true s m e = e
moved true false s m e = e
moved false r s m e = e

-- a set with one more of the numbers
pub with-next : (made new rest : List ℕ) (x : ℕ) (s : Bool) (n : ℕ) → WithMember nat_cmp made new x → ((among (x ∷ rest) n || among made n) ≡ s) → (among rest n || among new n) ≡ s
with-next made new rest x s n added so_far =
    ap (λ b. among rest n || b) (sym (has-among new n) ∙ added.each n ∙ ap (λ b. b || has nat_cmp made n) (eq-cmp n x) ∙ ap (λ b. (x == n) || b) (has-among made n))
    ∙ moved (x == n) (among rest n) s (among made n) so_far

-- what is listed under a name that is found, or not
pub listed-some : (touched : Touched) (name numbers : List ℕ) → Some numbers ≡ lookup (pointwise ◌==◌ name) touched → numbers_of touched name ≡ numbers
listed-some touched name numbers e = ap listed (sym e)

pub listed-none : (touched : Touched) (name : List ℕ) → None ≡ lookup (pointwise ◌==◌ name) touched → numbers_of touched name ≡ []
listed-none touched name e = ap listed (sym e)

-- THE NAMES of entries: they rise, and each has numbers that rise

abbrev by_name : List ℕ × List ℕ → List ℕ × List ℕ → Ordering
by_name e f = slice_cmp nat_cmp e.0 f.0

by_name-total : IsTotalOrder by_name
by_name-total = on_total (λ (e : List ℕ × List ℕ). e.0) nat_list_cmp_total

abbrev pub Held : Touched → Type 0
Held touched = AllRise touched × IsStrictlySortedBy by_name touched

pub held-none : Held []
unfolding IsStrictlySortedBy
held-none = (tt, tt)

-- where a name that is not there would stand: the names before are less, and those from there on greater
abbrev pub Gap : Touched → List ℕ → ℕ → Type 0
Gap touched name i = IsPartitionPoint (λ e. slice_cmp nat_cmp e.0 name ≡ Less) (λ e. slice_cmp nat_cmp e.0 name ≡ Greater) touched i

-- whether a name is another, by how they compare
told : (a name : List ℕ) (r : Ordering) → slice_cmp nat_cmp a name ≡ r → bytes_eq name a ≡ is_eq r
told a name r is = nat_list_eq_equiv.symm name a ∙ texts_ties a name ∙ ap is_eq is

-- what a binary search for a name answers
module _ (touched seen now : Touched) (is : seen ≡ touched) (same : touched ≡ now) (up : IsStrictlySortedBy by_name touched) (name : List ℕ) where
  searchable : IsNonDecreasingBy (λ e. ordering_index (slice_cmp nat_cmp e.0 name)) seen
  searchable =
      subst (IsNonDecreasingBy (λ (e : List ℕ × List ℕ). ordering_index (slice_cmp nat_cmp e.0 name))) (sym is)
      (searchable_from_sorted nat_list_cmp_total (λ (e : List ℕ × List ℕ). e.0) touched name
      (λ k d from lt. ap is_lt (by_name-total.antisymm (get_or touched (k + 1) d) (get_or touched k d) ∙ ap ordering_reverse (Less-from_sorted by_name touched k (k + 1) d up (omega arith) lt))))

  pub searched : (r : Result ℕ ℕ) → IsSearchInRange r (length seen) → IsBinarySearchResult (λ e. slice_cmp nat_cmp e.0 name) seen r
      → MatchResult r (λ i. (i < length now) × HoldsAt (λ e. e.0 ≡ name) now i) (λ i. (i ≤ length now) × Gap now name i)
  searched (Ok i) within at = subst (λ (ts : Touched). (i < length ts) × HoldsAt (λ e. e.0 ≡ name) ts i) (is ∙ same) (within, λ d. exact_bytes (get_or seen i d).0 name (at d))
  searched (Err i) within at = subst (λ (ts : Touched). (i ≤ length ts) × Gap ts name i) (is ∙ same) (within, at searchable)

-- numbers put in the place of others, under a name that is found
all-set : (P : List ℕ × List ℕ → Type 0) (touched : Touched) (test : List ℕ → Bool) (numbers : List ℕ) → ((e : List ℕ × List ℕ) → P e → P (e.0, numbers)) → AllByRecursion P touched → AllByRecursion P (set_value test touched numbers)
all-set P [] test numbers set all = tt
all-set P (t ∷ ts) test numbers set all = by (test t.0) (all-set P ts test numbers set all.1)
  where
    by : (b : Bool) → AllByRecursion P (set_value test ts numbers) → AllByRecursion P (cond b ((t.0, numbers) ∷ ts) (t ∷ set_value test ts numbers))
    by true go = (set t all.0, all.1)
    by false go = (all.0, go)

rising-set : (touched : Touched) (test : List ℕ → Bool) (numbers : List ℕ) → IsStrictlySortedBy by_name touched → IsStrictlySortedBy by_name (set_value test touched numbers)
unfolding IsStrictlySortedBy
rising-set [] test numbers up = tt
rising-set (t ∷ ts) test numbers up = by (test t.0) (all-set (λ e. by_name t e ≡ Less) ts test numbers (λ e is. is) up.0) (rising-set ts test numbers up.1)
  where
    by : (b : Bool) → AllByRecursion (λ e. by_name t e ≡ Less) (set_value test ts numbers) → IsStrictlySortedBy by_name (set_value test ts numbers) → IsStrictlySortedBy by_name (cond b ((t.0, numbers) ∷ ts) (t ∷ set_value test ts numbers))
    by true above go = up
    by false above go = (above, go)

found : (touched : Touched) (name : List ℕ) (i : ℕ) (d : List ℕ × List ℕ) (numbers : List ℕ) → IsStrictlySortedBy by_name touched → i < length touched → (get_or touched i d).0 ≡ name
    → (lookup (pointwise ◌==◌ name) touched ≡ Some (get_or touched i d).1) × (slice_set touched i ((get_or touched i d).0, numbers) ≡ set_value (pointwise ◌==◌ name) touched numbers)
found [] name i d numbers up lt is = absurd (omega (arith, lt))
found (t ∷ ts) name zero d numbers up lt is = rw ((bytes_decides name t.0).1 (sym is)) (refl, refl)
found (t ∷ ts) name (suc i) d numbers up lt is =
    let go = found ts name i d numbers (sorted_tail by_name t ts up) (omega (arith, lt)) is in
    let under = Less-from_sorted by_name (t ∷ ts) 0 (suc i) d up (omega arith) lt in
    rw (told t.0 name Less (ap (λ n. slice_cmp nat_cmp t.0 n) (sym is) ∙ under)) (go.0, ap (λ (rest : Touched). t ∷ rest) go.1)

module _ (touched now : Touched) (same : touched ≡ now) (held : Held touched) (name : List ℕ) (i : ℕ) (r : List ℕ × List ℕ) (here : r ≡ get_or touched i r) (at : (i < length now) × HoldsAt (λ e. e.0 ≡ name) now i) where
  found-at : (numbers : List ℕ) → (lookup (pointwise ◌==◌ name) touched ≡ Some r.1) × (slice_set touched i (r.0, numbers) ≡ set_value (pointwise ◌==◌ name) touched numbers)
  found-at numbers =
      let it = subst (λ (ts : Touched). (i < length ts) × HoldsAt (λ e. e.0 ≡ name) ts i) (sym same) at in
      subst (λ (e : List ℕ × List ℕ). (lookup (pointwise ◌==◌ name) touched ≡ Some e.1) × (slice_set touched i (e.0, numbers) ≡ set_value (pointwise ◌==◌ name) touched numbers)) (sym here)
      (found touched name i r numbers held.1 it.0 (it.1 r))

  pub lookup-here : Some r.1 ≡ lookup (pointwise ◌==◌ name) now
  lookup-here = sym (found-at []).0 ∙ ap (λ (ts : Touched). lookup (pointwise ◌==◌ name) ts) same

  pub held-at : (numbers : List ℕ) → IsStrictlySortedBy nat_cmp numbers → Held (slice_set touched i (r.0, numbers))
  held-at numbers sorted =
      subst Held (sym (found-at numbers).1)
      (all-set (λ e. IsStrictlySortedBy nat_cmp e.1) touched (pointwise ◌==◌ name) numbers (λ e is. sorted) held.0, rising-set touched (pointwise ◌==◌ name) numbers held.1)

  pub lookup-at : (numbers q : List ℕ) → lookup (pointwise ◌==◌ q) (slice_set touched i (r.0, numbers)) ≡ cond (bytes_eq name q) (Some numbers) (lookup (pointwise ◌==◌ q) now)
  lookup-at numbers q =
      ap (λ (ts : Touched). lookup (pointwise ◌==◌ q) ts) (found-at numbers).1
      ∙ lookup-set_value nat_list_eq_equiv (pointwise ◌==◌ name) (nat_list_eq_equiv.congr name) q numbers touched (subst IsSome (sym (found-at numbers).0) refl)
      ∙ ap (λ (ts : Touched). cond (bytes_eq name q) (Some numbers) (lookup (pointwise ◌==◌ q) ts)) same

-- numbers put at the place of a name that is not found
none-passes : (touched : Touched) (name : List ℕ) (i : ℕ) → Gap touched name i → NonePasses (pointwise ◌==◌ name) touched
none-passes touched name i gap =
    recursion_from_All (λ e. bytes_eq name e.0 ≡ false) touched
    (λ k d lt. ⊎_elim (λ before. told (get_or touched k d).0 name Less (gap.0 k d (omega arith) before)) (λ from. told (get_or touched k d).0 name Greater (gap.1 k d from lt)) (cases_lt k i))

pub lookup-none_at : (touched : Touched) (name : List ℕ) (i : ℕ) → Gap touched name i → None ≡ lookup (pointwise ◌==◌ name) touched
lookup-none_at touched name i gap = sym (lookup-none (pointwise ◌==◌ name) touched (none-passes touched name i gap))

all-insert : (P : List ℕ × List ℕ → Type 0) (touched : Touched) (i : ℕ) (e : List ℕ × List ℕ) → P e → AllByRecursion P touched → AllByRecursion P (insert touched i e)
all-insert P [] zero e it all = (it, tt)
all-insert P [] (suc i) e it all = (it, tt)
all-insert P (t ∷ ts) zero e it all = (it, all)
all-insert P (t ∷ ts) (suc i) e it all = (all.0, all-insert P ts i e it all.1)

rising-insert : (touched : Touched) (name numbers : List ℕ) (i : ℕ) → Gap touched name i → IsStrictlySortedBy by_name touched → IsStrictlySortedBy by_name (insert touched i (name, numbers))
unfolding IsStrictlySortedBy
rising-insert [] name numbers zero gap up = (tt, tt)
rising-insert [] name numbers (suc i) gap up = (tt, tt)
rising-insert (t ∷ ts) name numbers zero gap up =
    (recursion_from_All (λ e. slice_cmp nat_cmp name e.0 ≡ Less) (t ∷ ts) (λ k d lt. nat_list_cmp_total.antisymm name (get_or (t ∷ ts) k d).0 ∙ ap ordering_reverse (gap.1 k d (omega arith) lt)), up)
rising-insert (t ∷ ts) name numbers (suc i) gap up = (
  all-insert (λ e. by_name t e ≡ Less) ts i (name, numbers) (gap.0 0 t (omega arith) (omega arith)) up.0,
  rising-insert ts name numbers i (λ k d from lt. gap.0 (suc k) d (omega arith) (omega (arith, lt)), λ k d from lt. gap.1 (suc k) d (omega (arith, from)) (omega (arith, lt))) up.1,
)

-- whether or not there is memory for it
pub held-insert : (done : Bool) (touched : Touched) (name numbers : List ℕ) (i : ℕ) → Held touched → IsStrictlySortedBy nat_cmp numbers → Gap touched name i → Held (cond done (insert touched i (name, numbers)) touched)
held-insert true touched name numbers i held sorted gap = (all-insert (λ e. IsStrictlySortedBy nat_cmp e.1) touched i (name, numbers) sorted held.0, rising-insert touched name numbers i gap held.1)
held-insert false touched name numbers i held sorted gap = held

pub lookup-inserted : {V E : Type 0} (result : Result V E) (touched new : Touched) (name numbers : List ℕ) (i : ℕ) → Gap touched name i → OnOk result (new ≡ insert touched i (name, numbers))
    → OnOk result ((q : List ℕ) → lookup (pointwise ◌==◌ q) new ≡ cond (bytes_eq name q) (Some numbers) (lookup (pointwise ◌==◌ q) touched))
lookup-inserted (Ok v) touched new name numbers i gap is = λ q. ap (λ (ts : Touched). lookup (pointwise ◌==◌ q) ts) is ∙ lookup-insert nat_list_eq_equiv name numbers q touched i (none-passes touched name i gap)
lookup-inserted (Err e) touched new name numbers i gap is = tt
