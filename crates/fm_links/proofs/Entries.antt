-- Entries in any order, and the claims that they are.
use Rattle.std.proofs.Common.{◌≡◌, ℕ, Bool, true, false, cond, List, [], ◌∷◌, nat_eq, Option, Some, None, refl, sym, ap, ◌∙◌}
use Rattle.std.specs.BTreeMap.{is_at as at_query}
use Rattle.std.specs.Cmp.Lexicographic.{slice_cmp, pointwise, nat_list_cmp_total, texts_ties}
use Rattle.std.specs.Cmp.{eq_by_cmp_equiv}
use Rattle.std.specs.FinMap as maps
use Rattle.std.specs.Map.{lookup}
use Rattle.std.specs.Option.{option_map}
use Rattle.std.specs.Ordering.{is_eq, nat_cmp}
use Rattle.meaning_settling.proofs.KeyedLaws.{is_at-same, is_at-self, is_at-sym, same_keyed}
use Rattle.meaning_settling.specs.Keyed.{is_at}
use Rattle.fm_links.specs.Claims.{PathClaim, claim_on, claims_in, row_on, take_of}
use Rattle.fm_links.specs.declared.claims.Claim.{Claim}
use Rattle.fm_links.specs.declared.claims.ClaimedLink.{ClaimedLink}

abbrev pub Entries : Type 0
Entries = List (List ℕ × Claim)

-- by any test that passes at equal paths alone
module _ (same : List ℕ → List ℕ → Bool) (ties : (q k : List ℕ) → same q k ≡ is_at q k) where
  pub found : (es : Entries) (q : List ℕ) → maps.get (claims_in es) q ≡ option_map (claim_on q) (lookup (same q) es)
  found [] q = maps.get-empty (slice_cmp nat_cmp) q
  found (e ∷ es) q =
      maps.get-insert nat_list_cmp_total (claims_in es) e.0 (claim_on e.0 e.1) q
      ∙ (λ i. cond (sym (ties q e.0) i) (Some (claim_on e.0 e.1)) (found es q i)) ∙ by (same q e.0) refl
    where
      by : (b : Bool) → same q e.0 ≡ b → cond b (Some (claim_on e.0 e.1)) (option_map (claim_on q) (lookup (same q) es)) ≡ option_map (claim_on q) (cond b (Some e.1) (lookup (same q) es))
      by true here = ap (λ (p : List ℕ). Some (claim_on p e.1)) (sym (is_at-same q e.0 (sym (ties q e.0) ∙ here)))
      by false there = refl

  -- the same entries in another order
  pub reordered : (old new : Entries) → ((q : List ℕ) → lookup (same q) new ≡ lookup (same q) old) → claims_in new ≡ claims_in old
  reordered old new alike = same_keyed _ _ (λ q. found new q ∙ ap (λ (o : Option Claim). option_map (claim_on q) o) (alike q) ∙ sym (found old q))

  module _ (old new : Entries) (k : List ℕ) where
    pub put : (v : Claim) → ((q : List ℕ) → lookup (same q) new ≡ cond (same k q) (Some v) (lookup (same q) old)) → claims_in new ≡ maps.insert (claims_in old) k (claim_on k v)
    put v updates = same_keyed _ _ (λ q.
        found new q ∙ ap (λ (o : Option Claim). option_map (claim_on q) o) (updates q) ∙ by q (same k q) refl
        ∙ ap (λ (o : Option PathClaim). cond (is_at q k) (Some (claim_on k v)) o) (sym (found old q)) ∙ sym (maps.get-insert nat_list_cmp_total (claims_in old) k (claim_on k v) q))
      where
        by : (q : List ℕ) (b : Bool) → same k q ≡ b → option_map (claim_on q) (cond b (Some v) (lookup (same q) old)) ≡ cond (is_at q k) (Some (claim_on k v)) (option_map (claim_on q) (lookup (same q) old))
        by q true here =
            let is : k ≡ q = is_at-same k q (sym (ties k q) ∙ here) in
            ap (λ (p : List ℕ). Some (claim_on p v)) (sym is)
            ∙ ap (λ b. cond b (Some (claim_on k v)) (option_map (claim_on q) (lookup (same q) old))) (sym (ap (λ (p : List ℕ). is_at p k) (sym is) ∙ is_at-self k))
        by q false there = ap (λ b. cond b (Some (claim_on k v)) (option_map (claim_on q) (lookup (same q) old))) (sym (is_at-sym k q (sym (ties k q) ∙ there)))

    pub removed : ((q : List ℕ) → lookup (same q) new ≡ cond (same k q) None (lookup (same q) old)) → claims_in new ≡ maps.remove (claims_in old) k
    removed updates = same_keyed _ _ (λ q.
        found new q ∙ ap (λ (o : Option Claim). option_map (claim_on q) o) (updates q) ∙ by q (same k q) refl
        ∙ ap (λ (o : Option PathClaim). cond (is_at q k) None o) (sym (found old q)) ∙ sym (maps.get-remove nat_list_cmp_total (claims_in old) k q))
      where
        by : (q : List ℕ) (b : Bool) → same k q ≡ b → option_map (claim_on q) (cond b None (lookup (same q) old)) ≡ cond (is_at q k) None (option_map (claim_on q) (lookup (same q) old))
        by q true here =
            let is : k ≡ q = is_at-same k q (sym (ties k q) ∙ here) in
            ap (λ b. cond b None (option_map (claim_on q) (lookup (same q) old))) (sym (ap (λ (p : List ℕ). is_at p k) (sym is) ∙ is_at-self k))
        by q false there = ap (λ b. cond b None (option_map (claim_on q) (lookup (same q) old))) (sym (is_at-sym k q (sym (ties k q) ∙ there)))

-- the tests of the two kinds of maps

pub bytes-tie : (q k : List ℕ) → pointwise nat_eq q k ≡ is_at q k
bytes-tie q k = texts_ties q k

pub query-ties : (q k : List ℕ) → is_eq (slice_cmp nat_cmp q k) ≡ is_at q k
query-ties q k = refl

pub turned : (q k : List ℕ) → is_eq (slice_cmp nat_cmp q k) ≡ is_at k q
turned q k = (eq_by_cmp_equiv nat_list_cmp_total).symm q k

-- what is taken, by what a look-up finds
pub taken : (es : Entries) (q : List ℕ) (o : Option Claim) → o ≡ lookup (at_query (slice_cmp nat_cmp q)) es → (t : Option ClaimedLink) → option_map (λ (c : Claim). c.take) o ≡ Some t → row_on q t ≡ take_of (maps.get (claims_in es) q)
taken es q None is t e = cc
taken es q (Some c) is t e =
    ap (λ (x : Option ClaimedLink). row_on q x) (sym same) ∙ ap take_of (ap (λ (x : Option Claim). option_map (claim_on q) x) is ∙ sym (found (λ a b. is_eq (slice_cmp nat_cmp a b)) query-ties es q))
  where
    same : c.take ≡ t
    same = cc

pub untaken : (es : Entries) (q : List ℕ) → None ≡ lookup (at_query (slice_cmp nat_cmp q)) es → None ≡ take_of (maps.get (claims_in es) q)
untaken es q is = ap take_of (ap (λ (x : Option Claim). option_map (claim_on q) x) is ∙ sym (found (λ a b. is_eq (slice_cmp nat_cmp a b)) query-ties es q))
