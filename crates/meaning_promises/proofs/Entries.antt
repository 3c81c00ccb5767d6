-- Entries of a map from numbers: each is found under its key, and what is found is one of them.
use Rattle.std.proofs.Common.{◌≡◌, ◌≢◌, inl, inr, ⊎_elim, ℕ, List, [], ◌∷◌, Bool, true, false, cond, map, Option, Some, refl, sym, ◌∙◌, ap, subst}
use Rattle.std.proofs.lemmas.Bool.{cases_eq}
use Rattle.std.specs.Cmp.{nat_cmp_total, tied_itself, unsigned_tied}
use Rattle.std.specs.FinMap as maps
use Rattle.std.specs.FinMap.{entries_sorted, find, get-entries, is_sorted}
use Rattle.std.specs.FinMap.Entries.{below_all}
use Rattle.std.specs.Ordering.{is_lt, nat_cmp}
use Rattle.std.specs.Prelude.{T}
use Rattle.meaning_areas.proofs.Tables.{test-other, test-same}
use Rattle.meaning_settling.proofs.KeyedLaws.{false_true}
use Rattle.meaning_settling.specs.Settled.{AreDistinct, IsIn, IsNot}
use Rattle.meaning_system.proofs.Resolved.{both}
use Rattle.meaning_promises.proofs.Promised.{none_some}

truth : (b : Bool) → T b → b ≡ true
truth true t = refl
truth false t = absurd t

module _ {X : Type 0} where
  abbrev pub Found : (ℕ → Option X) → List (ℕ × X) → Type 0
  Found at [] = Unit {0}
  Found at (e ∷ es) = (at e.0 ≡ Some e.1) × Found at es

  above : (x : ℕ) (es : List (ℕ × X)) → below_all nat_cmp x es ≡ true → IsNot x (map (λ e. e.0) es)
  above x [] s = tt
  above x (e ∷ es) s =
      let two = both (is_lt (nat_cmp x e.0)) (below_all nat_cmp x es) s in
      ((λ (same : e.0 ≡ x). false_true (sym (ap (λ (y : ℕ). is_lt (nat_cmp x y)) same ∙ ap is_lt (tied_itself nat_cmp_total x)) ∙ two.0)), above x es two.1)

  differ : (es : List (ℕ × X)) → is_sorted nat_cmp es ≡ true → AreDistinct (map (λ e. e.0) es)
  differ [] s = tt
  differ (e ∷ es) s = let two = both (below_all nat_cmp e.0 es) (is_sorted nat_cmp es) s in (above e.0 es two.0, differ es two.1)

  found-more : (e : ℕ × X) (all es : List (ℕ × X)) → IsNot e.0 (map (λ x. x.0) es) → Found (λ q. find nat_cmp q all) es → Found (λ q. find nat_cmp q (e ∷ all)) es
  found-more e all [] never found = tt
  found-more e all (x ∷ xs) never found =
      (ap (λ b. cond b (Some e.1) (find nat_cmp x.0 all)) (unsigned_tied x.0 e.0 ∙ test-other x.0 e.0 never.0) ∙ found.0, found-more e all xs never.1 found.1)

  found-all : (es : List (ℕ × X)) → AreDistinct (map (λ e. e.0) es) → Found (λ q. find nat_cmp q es) es
  found-all [] once = tt
  found-all (e ∷ es) once =
      (ap (λ b. cond b (Some e.1) (find nat_cmp e.0 es)) (unsigned_tied e.0 e.0 ∙ test-same e.0 e.0 refl), found-more e es es once.0 (found-all es once.1))

  pub entries-differ : (m : maps.FinMap nat_cmp X) → AreDistinct (map (λ e. e.0) (maps.entries m))
  entries-differ m = differ (maps.entries m) (truth (is_sorted nat_cmp (maps.entries m)) (entries_sorted m))

  pub entries-found : (m : maps.FinMap nat_cmp X) → Found (maps.get m) (maps.entries m)
  entries-found m = subst (λ (at : ℕ → Option X). Found at (maps.entries m)) (λ i q. sym (get-entries m q) i) (found-all (maps.entries m) (entries-differ m))

  -- a look-up is done at the first entry, or goes on behind it
  pub find-here : (q : ℕ) (e : ℕ × X) (es : List (ℕ × X)) → q ≡ e.0 → find nat_cmp q (e ∷ es) ≡ Some e.1
  find-here q e es same = ap (λ b. cond b (Some e.1) (find nat_cmp q es)) (unsigned_tied q e.0 ∙ test-same q e.0 same)

  pub find-there : (q : ℕ) (e : ℕ × X) (es : List (ℕ × X)) → q ≢ e.0 → find nat_cmp q (e ∷ es) ≡ find nat_cmp q es
  find-there q e es other = ap (λ b. cond b (Some e.1) (find nat_cmp q es)) (unsigned_tied q e.0 ∙ test-other q e.0 other)

  key-among : (es : List (ℕ × X)) (q : ℕ) (x : X) → find nat_cmp q es ≡ Some x → IsIn q (map (λ e. e.0) es)
  key-among [] q x at = absurd (none_some x at)
  key-among (e ∷ es) q x at = ⊎_elim (λ (same : q ≡ e.0). inl same) (λ (other : q ≢ e.0). inr (key-among es q x (sym (find-there q e es other) ∙ at))) (cases_eq q e.0)

  pub key-in : (m : maps.FinMap nat_cmp X) (q : ℕ) (x : X) → maps.get m q ≡ Some x → IsIn q (maps.keys m)
  key-in m q x at = key-among (maps.entries m) q x (sym (get-entries m q) ∙ at)
