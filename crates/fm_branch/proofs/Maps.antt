-- Entries in the order of their keys, and the finite maps that they are.
use Rattle.std.proofs.Common.{◌≡◌, ℕ, nat_eq, Bool, true, false, cond, List, [], ◌∷◌, length, Option, Some, None, refl, sym, ap, subst, ◌∙◌}
use Rattle.std.proofs.lemmas.Bool.{and_from, and_parts}
use Rattle.std.specs.BTreeMap.{is_at}
use Rattle.std.proofs.lemmas.Cmp.{nat_eq_equiv}
use Rattle.std.specs.Cmp.{IsTotalOrder, eq_by_cmp_equiv, Equal-is, unsigned_ties}
use Rattle.std.specs.FinMap as maps
use Rattle.std.specs.FinMap.{nat_cmp-IsAntisymmetric}
use Rattle.std.specs.FinMap.Entries.{below_all, by_order, put}
use Rattle.std.specs.List.{AllByRecursion}
use Rattle.std.specs.List.Sorted.{IsStrictlySortedBy}
use Rattle.std.specs.Map.{keys_of, lookup}
use Rattle.std.specs.Ordering.{eq_by_cmp, is_eq, is_lt, nat_cmp}
use Rattle.std.specs.declared.cmp.Ordering.{Ordering}
use Rattle.std.specs.declared.cmp.Ordering.TheVariants.{Less, Equal, Greater}

less : (r : Ordering) → is_lt r ≡ true → r ≡ Less
less Less e = refl
less Equal e = cc e
less Greater e = cc e

pub no_items : {A : Type 0} (xs : List A) → length xs ≡ 0 → xs ≡ []
no_items [] e = refl
no_items (x ∷ xs) e = absurd cc

-- two numbers that tie

pub same-tied : (q k : ℕ) → eq_by_cmp nat_cmp q k ≡ true → q ≡ k
same-tied q k e = nat_cmp-IsAntisymmetric q k ((Equal-is (nat_cmp q k)).0 e)

pub tied-number : (q k : ℕ) → nat_eq k q ≡ eq_by_cmp nat_cmp q k
tied-number q k = nat_eq_equiv.symm k q ∙ unsigned_ties q k

module _ {K X : Type 0} (R : K → K → Ordering) where
  -- a key below all others goes first
  pub put-first : (k : K) (v : X) (es : List (K × X)) → below_all R k es ≡ true → put R k v es ≡ (k, v) ∷ es
  put-first k v [] b = refl
  put-first k v (e ∷ es) b = ap (λ r. by_order r ((k, v) ∷ e ∷ es) ((e.0, v) ∷ es) (e ∷ put R k v es)) (less (R k e.0) (and_parts (is_lt (R k e.0)) (below_all R k es) b).0)

  -- a key below all others is not found
  pub missed : (k : K) (es : List (K × X)) → below_all R k es ≡ true → maps.find R k es ≡ None
  missed k [] b = refl
  missed k (e ∷ es) b =
      let parts = and_parts (is_lt (R k e.0)) (below_all R k es) b in
      ap (λ r. cond (is_eq r) (Some e.1) (maps.find R k es)) (less (R k e.0) parts.0) ∙ missed k es parts.1

  below-ascending : (x : K) (es : List (K × X)) → AllByRecursion (λ y. R x y ≡ Less) (keys_of es) → below_all R x es ≡ true
  below-ascending x [] all = refl
  below-ascending x (e ∷ es) all = and_from (is_lt (R x e.0)) (below_all R x es) (ap is_lt all.0) (below-ascending x es all.1)

  pub sorted-ascending : (es : List (K × X)) → IsStrictlySortedBy R (keys_of es) → maps.is_sorted R es ≡ true
  unfolding IsStrictlySortedBy
  sorted-ascending [] asc = refl
  sorted-ascending (e ∷ es) asc = and_from (below_all R e.0 es) (maps.is_sorted R es) (below-ascending e.0 es asc.0) (sorted-ascending es asc.1)

  pub entries-empty : maps.entries (maps.empty {X = X} {R = R}) ≡ []
  entries-empty = no_items (maps.entries (maps.empty {X = X} {R = R})) (sym (maps.len-entries (maps.empty {X = X} {R = R})) ∙ maps.len-empty R X)

  found : (q : K) (es : List (K × X)) → maps.find R q es ≡ lookup (is_at (R q)) es
  found q [] = refl
  found q (e ∷ es) = ap (λ (rest : Option X). cond (is_eq (R q e.0)) (Some e.1) rest) (found q es)

module _ {K : Type 0} {R : K → K → Ordering} where
  pub same_key : maps.IsAntisymmetric R → (k q : K) → is_eq (R k q) ≡ true → k ≡ q
  same_key only k q e = only k q ((Equal-is (R k q)).0 e)

  pub turned : IsTotalOrder R → (k q : K) → is_eq (R k q) ≡ eq_by_cmp R q k
  turned o k q = (eq_by_cmp_equiv o).symm k q

module _ {K X : Type 0} {R : K → K → Ordering} (o : IsTotalOrder R) where
  -- what a look-up finds
  pub get-of : (es : List (K × X)) (q : K) → maps.get (maps.from_entries {R = R} es) q ≡ lookup (is_at (R q)) es
  get-of es q = maps.get-from_entries o es q ∙ found R q es

  -- entries in the order of their keys are those of the map
  pub entries-of : (es : List (K × X)) → IsStrictlySortedBy R (keys_of es) → maps.entries (maps.from_entries {R = R} es) ≡ es
  entries-of es asc = by es (sorted-ascending R es asc)
    where
      by : (es : List (K × X)) → maps.is_sorted R es ≡ true → maps.entries (maps.from_entries {R = R} es) ≡ es
      by [] s = entries-empty R
      by (e ∷ es) s =
          let parts = and_parts (below_all R e.0 es) (maps.is_sorted R es) s in
          maps.entries-insert o (maps.from_entries es) e.0 e.1 ∙ ap (put R e.0 e.1) (by es parts.1) ∙ put-first R e.0 e.1 es parts.0

  module _ (only : maps.IsAntisymmetric R) where
    pub of-put : (old new : List (K × X)) (k : K) (v : X)
        → ((q : K) → lookup (is_at (R q)) new ≡ cond (is_eq (R k q)) (Some v) (lookup (is_at (R q)) old))
        → maps.from_entries {R = R} new ≡ maps.insert (maps.from_entries old) k v
    of-put old new k v updates = maps.same_map o only _ _ (λ q.
        get-of new q ∙ updates q ∙ (λ i. cond (turned o k q i) (Some v) (sym (get-of old q) i))
        ∙ sym (maps.get-insert o (maps.from_entries old) k v q))

    pub of-removed : (old new : List (K × X)) (k : K)
        → ((q : K) → lookup (is_at (R q)) new ≡ cond (is_eq (R k q)) None (lookup (is_at (R q)) old))
        → maps.from_entries {R = R} new ≡ maps.remove (maps.from_entries old) k
    of-removed old new k updates = maps.same_map o only _ _ (λ q.
        get-of new q ∙ updates q ∙ (λ i. cond (turned o k q i) None (sym (get-of old q) i))
        ∙ sym (maps.get-remove o (maps.from_entries old) k q))

    -- what was put in at a new key, taken out again
    pub removed-put : (m : maps.FinMap R X) (k : K) (v : X) → maps.get m k ≡ None → maps.remove (maps.insert m k v) k ≡ m
    removed-put m k v new = maps.same_map o only _ _ (λ q.
        maps.get-remove o (maps.insert m k v) k q ∙ ap (λ (x : Option X). cond (eq_by_cmp R q k) None x) (maps.get-insert o m k v q)
        ∙ by q (eq_by_cmp R q k) refl)
      where
        by : (q : K) (b : Bool) → eq_by_cmp R q k ≡ b → cond b None (cond b (Some v) (maps.get m q)) ≡ maps.get m q
        by q true same = sym (ap (λ (x : K). maps.get m x) (same_key only q k same) ∙ new)
        by q false other = refl

    module _ (old new : List (K × X)) (k : K) (others : (q : K) → is_eq (R k q) ≡ false → lookup (is_at (R q)) new ≡ lookup (is_at (R q)) old) where
      -- a key with a new value, where the other keys keep theirs
      pub of-renewed : (v : X) → lookup (is_at (R k)) new ≡ Some v → maps.from_entries {R = R} new ≡ maps.insert (maps.from_entries old) k v
      of-renewed v here = of-put old new k v (λ q. by q (is_eq (R k q)) refl)
        where
          by : (q : K) (b : Bool) → is_eq (R k q) ≡ b → lookup (is_at (R q)) new ≡ cond b (Some v) (lookup (is_at (R q)) old)
          by q true same = subst (λ (x : K). lookup (is_at (R x)) new ≡ Some v) (same_key only k q same) here
          by q false other = others q other

      -- a key that has no value before or after
      pub of-same : lookup (is_at (R k)) new ≡ None → lookup (is_at (R k)) old ≡ None → maps.from_entries {R = R} new ≡ maps.from_entries old
      of-same none was = maps.same_map o only _ _ (λ q. get-of new q ∙ by q (is_eq (R k q)) refl ∙ sym (get-of old q))
        where
          by : (q : K) (b : Bool) → is_eq (R k q) ≡ b → lookup (is_at (R q)) new ≡ lookup (is_at (R q)) old
          by q true same = subst (λ (x : K). lookup (is_at (R x)) new ≡ lookup (is_at (R x)) old) (same_key only k q same) (none ∙ sym was)
          by q false other = others q other
