-- The paths of links that are given.
use Rattle.std.proofs.Common.{◌≡◌, ℕ, ◌+◌, ◌<◌, ◌||◌, Bool, true, false, cond, List, ◌∷◌, length, get_or, drop, refl, sym, ap, ◌∙◌}
use Rattle.std.proofs.lemmas.List.{drop_more}
use Rattle.std.specs.BTreeSet.{BTreeSet, contains}
use Rattle.std.specs.Cmp.Lexicographic.{slice_cmp, nat_list_cmp_total}
use Rattle.std.specs.Ordering.{is_eq, nat_cmp}
use Rattle.dl_base.specs.declared.value.LinkRow.{LinkRow}
use Rattle.meaning_areas.specs.Branches.{given_on}
use Rattle.meaning_settling.specs.Keyed.{is_at}
use Rattle.fm_branch.proofs.Maps.{turned}

-- a turn of the loop that collects them
pub given-turn : (items all : List LinkRow) (i : ℕ) (d : LinkRow) → items ≡ all → i < length items → d ≡ get_or items i d → (path : List ℕ) → path ≡ d.path
    → (old new : BTreeSet (List ℕ))
    → ((q : List ℕ) → contains (slice_cmp nat_cmp) new q ≡ cond (is_eq (slice_cmp nat_cmp path q)) true (contains (slice_cmp nat_cmp) old q))
    → (q : List ℕ) → (contains (slice_cmp nat_cmp) old q || given_on (drop i all) q) ≡ given_on all q
    → (contains (slice_cmp nat_cmp) new q || given_on (drop (i + 1) all) q) ≡ given_on all q
given-turn items all i d same within is path path_is old new updates q so_far =
    let split : drop i all ≡ d ∷ drop (i + 1) all =
    ap (λ (l : List LinkRow). drop i l) (sym same) ∙ drop_more items i d within ∙ ap (λ (x : LinkRow). x ∷ drop (i + 1) items) (sym is)
    ∙ ap (λ (l : List LinkRow). d ∷ drop (i + 1) l) same in
    let here : is_eq (slice_cmp nat_cmp path q) ≡ is_at q d.path = turned nat_list_cmp_total path q ∙ ap (λ (p : List ℕ). is_at q p) path_is in
    ap (λ b. b || given_on (drop (i + 1) all) q) (updates q ∙ ap (λ b. cond b true (contains (slice_cmp nat_cmp) old q)) here)
    ∙ by (is_at q d.path) (contains (slice_cmp nat_cmp) old q)
    ∙ ap (λ (l : List LinkRow). contains (slice_cmp nat_cmp) old q || given_on l q) (sym split)
    ∙ so_far
  where
    by : (b c : Bool) → (cond b true c || given_on (drop (i + 1) all) q) ≡ (c || (b || given_on (drop (i + 1) all) q))
    by true true = refl
    by true false = refl
    by false c = refl
