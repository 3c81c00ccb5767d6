-- Keys put in order one after the other, and those of the copies that their entries are.
use Rattle.std.proofs.Common.{◌≡◌, ℕ, List, [], ◌∷◌, ◌++◌, length, map, cond, false, refl, sym, ap, subst, ◌∙◌, Option, Some, None, Bor}
use Rattle.std.proofs.lemmas.Map.Iter.{rest_more, rest_so_far}
use Rattle.std.specs.BTreeMap.{insert_entry}
use Rattle.std.specs.Cmp.Lexicographic.{nat_list_cmp_total, nat_list_eq_equiv, slice_cmp}
use Rattle.std.specs.FinMap as maps
use Rattle.std.specs.FinMap.Entries.{by_order, put}
use Rattle.std.specs.Iterator.{Yields}
use Rattle.std.specs.List.{AllByRecursion, IsDistinct}
use Rattle.std.specs.Map.{keys_of, lookup}
use Rattle.std.specs.Map.Iter.{TakesFirst, deref_pair}
use Rattle.std.specs.Ordering.{match_ordering, nat_cmp, ordering_then}
use Rattle.std.specs.declared.cmp.Ordering.{Ordering}
use Rattle.std.specs.declared.cmp.Ordering.TheVariants.{Equal, Greater, Less}
use Rattle.dl_codec.specs.declared.archive.FileCopy.{FileCopy}
use Rattle.fm_archive.specs.Copies.{code, copies_in, same}
use Rattle.fm_archive.specs.declared.copies.Key.{Key}
use Rattle.fm_archive.proofs.Entries.{coded-same, copies_push}
use Rattle.meaning_areas.specs.Copies.{copy_of}
use Rattle.meaning_settling.specs.Settling.{Copy}

-- by transaction, and then by count
abbrev pub order : Key → Key → Ordering
order a b = ordering_then (nat_cmp a.tx b.tx) (nat_cmp a.k b.k)

then-equal : (r : Ordering) → ordering_then r Equal ≡ r
then-equal Less = refl
then-equal Equal = refl
then-equal Greater = refl

coded-order : (a b : Key) → slice_cmp nat_cmp (code a) (code b) ≡ order a b
coded-order a b = ap (λ r. ordering_then (nat_cmp a.tx b.tx) r) (then-equal (nat_cmp a.k b.k))

-- a key in its place
abbrev with_key : List ℕ → List (List ℕ) → List (List ℕ)
with_key k [] = k ∷ []
with_key k (x ∷ xs) = by_order (slice_cmp nat_cmp k x) (k ∷ x ∷ xs) (x ∷ xs) (x ∷ with_key k xs)

keys-put : (k : List ℕ) (v : Copy) (es : List (List ℕ × Copy)) → map (λ e. e.0) (put (slice_cmp nat_cmp) k v es) ≡ with_key k (map (λ e. e.0) es)
keys-put k v [] = refl
keys-put k v (e ∷ es) = by (slice_cmp nat_cmp k e.0) (keys-put k v es)
  where
    by : (r : Ordering) → map (λ x. x.0) (put (slice_cmp nat_cmp) k v es) ≡ with_key k (map (λ x. x.0) es)
        → map (λ x. x.0) (by_order r ((k, v) ∷ e ∷ es) ((e.0, v) ∷ es) (e ∷ put (slice_cmp nat_cmp) k v es)) ≡ by_order r (k ∷ e.0 ∷ map (λ x. x.0) es) (e.0 ∷ map (λ x. x.0) es) (e.0 ∷ with_key k (map (λ x. x.0) es))
    by Less rest = refl
    by Equal rest = refl
    by Greater rest = ap (λ (l : List (List ℕ)). e.0 ∷ l) rest

abbrev pub codes_of : List (Key × Unit {0}) → List (List ℕ)
codes_of es = map (λ e. code e.0) es

codes-put : (k : Key) (u : Unit {0}) (es : List (Key × Unit {0})) → codes_of (insert_entry order es k u) ≡ with_key (code k) (codes_of es)
codes-put k u [] = refl
codes-put k u (e ∷ es) =
    by (order k e.0) (codes-put k u es)
    ∙ ap (λ r. by_order r (code k ∷ code e.0 ∷ codes_of es) (code e.0 ∷ codes_of es) (code e.0 ∷ with_key (code k) (codes_of es))) (sym (coded-order k e.0))
  where
    by : (r : Ordering) → codes_of (insert_entry order es k u) ≡ with_key (code k) (codes_of es)
        → codes_of (match_ordering r ((k, u) ∷ e ∷ es) ((e.0, u) ∷ es) (e ∷ insert_entry order es k u)) ≡ by_order r (code k ∷ code e.0 ∷ codes_of es) (code e.0 ∷ codes_of es) (code e.0 ∷ with_key (code k) (codes_of es))
    by Less rest = refl
    by Equal rest = refl
    by Greater rest = ap (λ (l : List (List ℕ)). code e.0 ∷ l) rest

-- of different keys, none of the first is the next one
apart : (k : Key) (v : FileCopy) (x : Key) (es rest : List (Key × FileCopy)) → AllByRecursion (λ y. same x y ≡ false) (keys_of (es ++ (k, v) ∷ rest)) → same x k ≡ false
apart k v x [] rest all = all.0
apart k v x (e ∷ es) rest all = apart k v x es rest all.1

turned : (a b : Key) → same a b ≡ same b a
turned a b = sym (coded-same a b) ∙ nat_list_eq_equiv.symm (code a) (code b) ∙ coded-same b a

new-key : (k : Key) (v : FileCopy) (es rest : List (Key × FileCopy)) → IsDistinct same (keys_of (es ++ (k, v) ∷ rest)) → lookup (same k) es ≡ None
unfolding IsDistinct
new-key k v [] rest distinct = refl
new-key k v (e ∷ es) rest distinct =
    ap (λ b. cond b (Some e.1) (lookup (same k) es)) (turned k e.0 ∙ apart k v e.0 es rest distinct.0)
    ∙ new-key k v es rest distinct.1

-- a turn of the loop over entries, by what was yielded and what is left
shown-more : (xs : List (Bor Key × Bor FileCopy)) (x : Bor Key × Bor FileCopy) → map deref_pair (xs ++ x ∷ []) ≡ map deref_pair xs ++ deref_pair x ∷ []
shown-more [] x = refl
shown-more (y ∷ ys) x = ap (λ (l : List (Key × FileCopy)). deref_pair y ∷ l) (shown-more ys x)

pub listed-turn : (all : List (Key × FileCopy)) (xs : List (Bor Key × Bor FileCopy)) (s t u : List (Key × FileCopy)) (r : Option (Bor Key × Bor FileCopy)) → s ≡ all → Yields (TakesFirst deref_pair) s xs t
    → (key : Bor Key) (file : Bor FileCopy) → r ≡ Some (key, file) → TakesFirst deref_pair t r u → IsDistinct same (keys_of all)
    → (made : List (Key × Unit {0})) → codes_of made ≡ maps.keys (copies_in (map deref_pair xs))
    → (later : List (Key × Unit {0})) (x : Unit {0}) → later ≡ insert_entry order made key.now x → codes_of later ≡ maps.keys (copies_in (map deref_pair (xs ++ (key, file) ∷ [])))
listed-turn all xs s t u r start y key file is step distinct made so_far later x later_is =
    let next : t ≡ (key.now, file.now) ∷ u = rest_more deref_pair t u r (key, file) is step in
    let split : all ≡ map deref_pair xs ++ (key.now, file.now) ∷ u = sym start ∙ rest_so_far deref_pair xs s t y ∙ ap (λ (l : List (Key × FileCopy)). map deref_pair xs ++ l) next in
    let es = map deref_pair xs in
    let new = new-key key.now file.now es u (subst (λ (l : List (Key × FileCopy)). IsDistinct same (keys_of l)) split distinct) in
    ap codes_of later_is ∙ codes-put key.now x made ∙ ap (with_key (code key.now)) so_far
    ∙ sym (keys-put (code key.now) (copy_of file.now) (maps.entries (copies_in es)))
    ∙ ap (λ (l : List (List ℕ × Copy)). map (λ e. e.0) l) (sym (maps.entries-insert nat_list_cmp_total (copies_in es) (code key.now) (copy_of file.now)))
    ∙ ap maps.keys (sym (copies_push es key.now file.now new))
    ∙ ap (λ (l : List (Key × FileCopy)). maps.keys (copies_in l)) (sym (shown-more xs (key, file)))

-- no copy
no_entries : {A : Type 0} (es : List A) → length es ≡ 0 → es ≡ []
no_entries [] e = refl
no_entries (x ∷ es) e = absurd cc

pub none-listed : maps.keys (copies_in []) ≡ []
none-listed = ap (λ (l : List (List ℕ × Copy)). map (λ e. e.0) l) (no_entries (maps.entries (copies_in [])) (sym (maps.len-entries (copies_in [])) ∙ maps.len-empty (slice_cmp nat_cmp) Copy))
