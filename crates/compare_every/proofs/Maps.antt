-- Maps in memory, entry by entry.
use Rattle.std.proofs.Common.{◌≡◌, ℕ, zero, suc, Bool, true, false, cond, not, ◌&&◌, ◌||◌, List, [], ◌∷◌, length, map, Option, Some, None, T, refl, sym, ap, ◌∙◌}
use Rattle.std.proofs.lemmas.Bool.{and_parts}
use Rattle.std.proofs.lemmas.Map.Entries.{length-keys_of, length-values_of, lookup_from_place}
use Rattle.std.proofs.lemmas.Map.Keys.{IsDistinct-from_sorted}
use Rattle.std.specs.BTreeMap.{is_at as at_query}
use Rattle.std.specs.Cmp.{eq_by_cmp_equiv, tied_itself}
use Rattle.std.specs.Cmp.Lexicographic.{slice_cmp, nat_list_cmp_total}
use Rattle.std.specs.FinMap as maps
use Rattle.std.specs.FinMap.Entries.{below_all}
use Rattle.std.specs.List.{slice_get}
use Rattle.std.specs.List.Sorted.{IsStrictlySortedBy}
use Rattle.std.specs.Map.{keys_of, lookup}
use Rattle.std.specs.Ordering.{is_eq, is_lt, nat_cmp}
use Rattle.fm_branch.proofs.Maps.{entries-of, get-of, turned}
use Rattle.meaning_settling.proofs.KeyedLaws.{get-put, is_at-same, same_keyed}
use Rattle.meaning_settling.specs.Keyed.{Keyed, is_at, put_at}
use Rattle.compare_every.proofs.Deciding.{false_true, some_same}
use Rattle.compare_every.proofs.Lists.{none_some}

-- a key that is put in
pub put-at : (k q : List ℕ) → is_eq (slice_cmp nat_cmp k q) ≡ is_at q k
put-at k q = turned nat_list_cmp_total k q

pub put-value : {X : Type 0} (k q : List ℕ) (new old o : Option X) → new ≡ cond (is_eq (slice_cmp nat_cmp k q)) o old → new ≡ cond (is_at q k) o old
put-value {X} k q new old o e = e ∙ ap (λ b. cond b o old) (put-at k q)

pub put-key : (k q : List ℕ) (new old : Bool) → new ≡ cond (is_eq (slice_cmp nat_cmp k q)) true old → new ≡ (is_at q k || old)
put-key k q new old e = e ∙ ap (λ b. cond b true old) (put-at k q) ∙ by (is_at q k)
  where
    by : (b : Bool) → cond b true old ≡ (b || old)
    by true = refl
    by false = refl

pub out-key : (k q : List ℕ) (new old : Bool) → new ≡ cond (is_eq (slice_cmp nat_cmp k q)) false old → new ≡ (old && not (is_at q k))
out-key k q new old e = e ∙ ap (λ b. cond b false old) (put-at k q) ∙ by (is_at q k) old
  where
    by : (b o : Bool) → cond b false o ≡ (o && not b)
    by true true = refl
    by true false = refl
    by false true = refl
    by false false = refl

-- a map after a change of one key
pub changed : {X : Type 0} (old new : List (List ℕ × X)) (k : List ℕ) (o : Option X)
    → ((q : List ℕ) → lookup (at_query (slice_cmp nat_cmp q)) new ≡ cond (is_eq (slice_cmp nat_cmp k q)) o (lookup (at_query (slice_cmp nat_cmp q)) old))
    → maps.from_entries {R = slice_cmp nat_cmp} new ≡ put_at (maps.from_entries old) k o
changed {X} old new k o updates = same_keyed _ _ (λ q.
    get-of nat_list_cmp_total new q ∙ updates q
    ∙ (λ i. cond (put-at k q i) o (sym (get-of nat_list_cmp_total old q) i))
    ∙ sym (get-put (maps.from_entries old) k q o))

-- ENTRIES IN ORDER

below-at : {X : Type 0} (k q : List ℕ) (v : X) (es : List (List ℕ × X)) (i : ℕ) → below_all (slice_cmp nat_cmp) k es ≡ true → slice_get es i ≡ Some (q, v) → is_lt (slice_cmp nat_cmp k q) ≡ true
below-at {X} k q v [] i below at = absurd (none_some (q, v) at)
below-at {X} k q v (e ∷ es) zero below at =
    ap (λ (x : List ℕ × X). is_lt (slice_cmp nat_cmp k x.0)) (sym (some_same e (q, v) at)) ∙ (and_parts (is_lt (slice_cmp nat_cmp k e.0)) (below_all (slice_cmp nat_cmp) k es) below).0
below-at {X} k q v (e ∷ es) (suc i) below at = below-at k q v es i (and_parts (is_lt (slice_cmp nat_cmp k e.0)) (below_all (slice_cmp nat_cmp) k es) below).1 at

not-below : (k : List ℕ) → is_lt (slice_cmp nat_cmp k k) ≡ true → ⊥
not-below k e = false_true (sym (ap is_lt (tied_itself nat_list_cmp_total k)) ∙ e)

-- each entry is found under its key
pub entry-found : {X : Type 0} (es : List (List ℕ × X)) (i : ℕ) (k : List ℕ) (v : X) → maps.is_sorted (slice_cmp nat_cmp) es ≡ true → slice_get es i ≡ Some (k, v) → maps.find (slice_cmp nat_cmp) k es ≡ Some v
entry-found {X} [] i k v s at = absurd (none_some (k, v) at)
entry-found {X} (e ∷ es) zero k v s at =
    let here = some_same e (k, v) at in
    ap (λ b. cond b (Some e.1) (maps.find (slice_cmp nat_cmp) k es)) (ap is_eq (ap (λ (x : List ℕ × X). slice_cmp nat_cmp k x.0) here ∙ tied_itself nat_list_cmp_total k))
    ∙ ap (λ (x : List ℕ × X). Some x.1) here
entry-found {X} (e ∷ es) (suc i) k v s at =
    let parts = and_parts (below_all (slice_cmp nat_cmp) e.0 es) (maps.is_sorted (slice_cmp nat_cmp) es) s in
    by (is_at k e.0) refl (below-at e.0 k v es i parts.0 at) (entry-found es i k v parts.1 at)
  where
    by : (b : Bool) → is_at k e.0 ≡ b → is_lt (slice_cmp nat_cmp e.0 k) ≡ true → maps.find (slice_cmp nat_cmp) k es ≡ Some v → cond b (Some e.1) (maps.find (slice_cmp nat_cmp) k es) ≡ Some v
    by true same less rest = absurd (not-below k (ap (λ (x : List ℕ). is_lt (slice_cmp nat_cmp x k)) (is_at-same k e.0 same) ∙ less))
    by false other less rest = rest

is-true : (b : Bool) → T b → b ≡ true
is-true true t = refl
is-true false t = absurd t

-- what is found is an entry
found-at : {X : Type 0} (q : List ℕ) (v : X) (es : List (List ℕ × X)) → maps.find (slice_cmp nat_cmp) q es ≡ Some v → (i : ℕ) × (slice_get (map (λ e. e.1) es) i ≡ Some v)
found-at {X} q v [] e = absurd (none_some v e)
found-at {X} q v (x ∷ xs) e = by (is_at q x.0) e (found-at q v xs)
  where
    by : (b : Bool) → cond b (Some x.1) (maps.find (slice_cmp nat_cmp) q xs) ≡ Some v → (maps.find (slice_cmp nat_cmp) q xs ≡ Some v → (i : ℕ) × (slice_get (map (λ e. e.1) xs) i ≡ Some v)) → (i : ℕ) × (slice_get (map {B = X} (λ e. e.1) (x ∷ xs)) i ≡ Some v)
    by true here rest = (0, here)
    by false there rest = let later = rest there in (suc later.0, later.1)

value-at : {X : Type 0} (es : List (List ℕ × X)) (i : ℕ) (v : X) → slice_get (map (λ e. e.1) es) i ≡ Some v → (k : List ℕ) × (slice_get es i ≡ Some (k, v))
value-at {X} [] i v e = absurd (none_some v e)
value-at {X} (x ∷ xs) zero v e = (x.0, ap (λ (w : X). Some (x.0, w)) (some_same x.1 v e))
value-at {X} (x ∷ xs) (suc i) v e = value-at xs i v e

module _ {X : Type 0} (m : Keyed X) where
  -- each value is under some key, and what is under a key is one
  pub value-found : (i : ℕ) (v : X) → slice_get (maps.values m) i ≡ Some v → (k : List ℕ) × (maps.get m k ≡ Some v)
  value-found i v at =
      let entry = value-at (maps.entries m) i v at in
      (entry.0, maps.get-entries m entry.0 ∙ entry-found (maps.entries m) i entry.0 v (is-true (maps.is_sorted (slice_cmp nat_cmp) (maps.entries m)) (maps.entries_sorted m)) entry.1)

  pub found-value : (q : List ℕ) (v : X) → maps.get m q ≡ Some v → (i : ℕ) × (slice_get (maps.values m) i ≡ Some v)
  found-value q v e = found-at q v (maps.entries m) (sym (maps.get-entries m q) ∙ e)

-- THE VALUES in the order of their keys

key-at : {X : Type 0} (es : List (List ℕ × X)) (i : ℕ) (k : List ℕ) → slice_get (keys_of es) i ≡ Some k → (v : X) × (slice_get es i ≡ Some (k, v)) × (slice_get (map (λ e. e.1) es) i ≡ Some v)
key-at {X} [] i k e = absurd (none_some k e)
key-at {X} (x ∷ xs) zero k e = (x.1, ap (λ (q : List ℕ). Some (q, x.1)) (some_same x.0 k e), refl)
key-at {X} (x ∷ xs) (suc i) k e = key-at xs i k e

key-none : {X : Type 0} (es : List (List ℕ × X)) (i : ℕ) → slice_get (keys_of es) i ≡ None → slice_get (map (λ e. e.1) es) i ≡ None
key-none {X} [] i e = refl
key-none {X} (x ∷ xs) zero e = absurd (none_some x.0 (sym e))
key-none {X} (x ∷ xs) (suc i) e = key-none xs i e

module _ {X : Type 0} (es : List (List ℕ × X)) (sorted : IsStrictlySortedBy (slice_cmp nat_cmp) (keys_of es)) where
  values-of : maps.values (maps.from_entries {R = slice_cmp nat_cmp} es) ≡ map (λ e. e.1) es
  values-of = ap (λ (l : List (List ℕ × X)). map (λ e. e.1) l) (entries-of nat_list_cmp_total es sorted)

  pub value-of-key : (i : ℕ) (k : List ℕ) (o : Option X) → slice_get (keys_of es) i ≡ Some k → o ≡ lookup (at_query (slice_cmp nat_cmp k)) es → o ≡ slice_get (maps.values (maps.from_entries {R = slice_cmp nat_cmp} es)) i
  value-of-key i k o at is =
      let entry = key-at es i k at in
      is ∙ lookup_from_place (eq_by_cmp_equiv nat_list_cmp_total) es i k entry.0 (IsDistinct-from_sorted (slice_cmp nat_cmp) (keys_of es) sorted) entry.1
      ∙ sym (ap (λ (l : List X). slice_get l i) values-of ∙ entry.2)

  pub no-value : (i : ℕ) → slice_get (keys_of es) i ≡ None → None ≡ slice_get (maps.values (maps.from_entries {R = slice_cmp nat_cmp} es)) i
  no-value i at = sym (ap (λ (l : List X). slice_get l i) values-of ∙ key-none es i at)

  pub values-length : length (keys_of es) ≡ length (maps.values (maps.from_entries {R = slice_cmp nat_cmp} es))
  values-length = length-keys_of es ∙ sym (length-values_of es) ∙ sym (ap (λ (l : List X). length l) values-of)
