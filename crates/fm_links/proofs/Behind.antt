-- Claims behind a change of the transactions: where each claims the same, where some go, and where one claims anew.
use Rattle.std.proofs.Common.{◌≡◌, ◌≢◌, ⊎_elim, ℕ, List, Bool, true, false, not, cond, ◌==◌, ◌&&◌, Option, Some, None, refl, sym, ◌∙◌, ap, subst}
use Rattle.std.proofs.lemmas.Bool.{cases_eq}
use Rattle.std.specs.Cmp.Lexicographic.{nat_list_cmp_total}
use Rattle.std.specs.FinMap as maps
use Rattle.std.specs.FinMap.{get-retain_keys}
use Rattle.meaning_areas.proofs.Tables.{test-other, test-same}
use Rattle.meaning_settling.specs.Apart.{has_path}
use Rattle.meaning_settling.specs.Keyed.{Keyed}
use Rattle.meaning_system.specs.CoreOf.{claimed_by}
use Rattle.meaning_system.specs.State.{State, Txn, differs, is_active, is_doomed, moved_of}
use Rattle.fm_links.proofs.Moving.{get-with, get-without}
use Rattle.fm_links.proofs.Searching.{AreApart, IsOnly, claim_in, claims-only, moved-has, of_it, only-claims, picked, lacks, same-number}
use Rattle.fm_links.specs.Claims.{PathClaim, claim_by, with_claim, without_claim}
use Rattle.fm_links.specs.Searching.{AreClaims, has_claim}
use Rattle.fm_links.specs.Stepping.{claimed_in, claims_of, is_staying, staying}

false_true : false ≡ true → ⊥
false_true e = cc

none_some : {A : Type 0} (x : A) → None ≡ Some x → ⊥
none_some x e = cc

-- of those that stay

alike-none : (b : Bool) → ◌≡◌ {A = Option PathClaim} (cond b None None) None
alike-none true = refl
alike-none false = refl

pub stay-of : (stays : ℕ → Bool) (q : ℕ) (o : Option PathClaim) → cond (stays q) (of_it q o) None ≡ of_it q (staying stays o)
stay-of stays q None = alike-none (stays q)
stay-of stays q (Some c) = by (c.tx == q) refl (stays c.tx) refl
  where
    by : (a : Bool) → (c.tx == q) ≡ a → (b : Bool) → stays c.tx ≡ b → cond (stays q) (cond a (Some c) None) None ≡ of_it q (cond b (Some c) None)
    by false other true is = alike-none (stays q) ∙ sym (ap (λ x. cond x (Some c) None) other)
    by false other false is = alike-none (stays q)
    by true same true is = ap (λ x. cond x (Some c) None) (ap stays (sym (same-number c.tx q same)) ∙ is) ∙ sym (ap (λ x. cond x (Some c) None) same)
    by true same false is = ap (λ x. cond x (Some c) None) (ap stays (sym (same-number c.tx q same)) ∙ is)

pub get-claims_of : (stays : ℕ → Bool) (claims : Keyed PathClaim) (p : List ℕ) → maps.get (claims_of stays claims) p ≡ staying stays (maps.get claims p)
unfolding claims_of
get-claims_of stays claims p =
    get-retain_keys claims (λ path. is_staying stays (maps.get claims path)) p (λ x tied. ap (is_staying stays) (maps.get_tied nat_list_cmp_total claims p x tied)) ∙ by (maps.get claims p)
  where
    by : (o : Option PathClaim) → cond (is_staying stays o) o None ≡ staying stays o
    by None = refl
    by (Some c) = refl

module _ (s later : State) (claims : Keyed PathClaim) (apart : AreApart s) (are : AreClaims claims s) where
  -- EACH CLAIMS THE SAME
  pub same-claims : ((p : List ℕ) (q : ℕ) → claim_in later p q (maps.get later.txs q) ≡ claim_in s p q (maps.get s.txs q)) → AreClaims claims later
  same-claims same = only-claims later claims (λ p q. same p q ∙ claims-only s claims apart are p q)

  -- SOME GO
  pub staying-claims : (stays : ℕ → Bool) → ((p : List ℕ) (q : ℕ) → claim_in later p q (maps.get later.txs q) ≡ cond (stays q) (claim_in s p q (maps.get s.txs q)) None)
      → (new : Keyed PathClaim) → ((p : List ℕ) → maps.get new p ≡ staying stays (maps.get claims p)) → AreClaims new later
  staying-claims stays fewer new is = only-claims later new (λ p q.
      fewer p q ∙ ap (λ (o : Option PathClaim). cond (stays q) o None) (claims-only s claims apart are p q) ∙ stay-of stays q (maps.get claims p) ∙ ap (of_it q) (sym (is p)))

  module _ (tx : ℕ) (t : Txn) (at : maps.get s.txs tx ≡ Some t) where
    has-moved : (p : List ℕ) → has_path (claimed_in s t) p ≡ has_claim s p (tx, t)
    has-moved p = moved-has (is_doomed s t) (moved_of t) p

    -- the claims without those of one transaction
    pub less : (p : List ℕ) → maps.get (without_claim (claimed_in s t) claims) p ≡ staying (λ q. not (q == tx)) (maps.get claims p)
    less p =
        get-without (claimed_in s t) claims p ∙ ap (λ b. cond b None (maps.get claims p)) (has-moved p)
        ∙ by (has_claim s p (tx, t)) refl (maps.get claims p) (sym (claims-only s claims apart are p tx) ∙ ap (claim_in s p tx) at)
      where
        by : (b : Bool) → has_claim s p (tx, t) ≡ b → (o : Option PathClaim) → of_it tx o ≡ cond (has_claim s p (tx, t)) (Some (claim_by tx (moved_of t) p)) None → cond b None o ≡ staying (λ q. not (q == tx)) o
        by true has None is = refl
        by false misses None is = refl
        by true has (Some c) is =
            let own = picked (c.tx == tx) c (claim_by tx (moved_of t) p) (is ∙ ap (λ b. cond b (Some (claim_by tx (moved_of t) p)) None) has) in
            sym (ap (λ b. cond (not b) (Some c) None) own.0)
        by false misses (Some c) is =
            let other = lacks (c.tx == tx) c (is ∙ ap (λ b. cond b (Some (claim_by tx (moved_of t) p)) None) misses) in
            sym (ap (λ b. cond (not b) (Some c) None) other)

    -- ONE IS GONE
    pub gone-claims : later.links_opening ≡ s.links_opening → ((q : ℕ) → maps.get later.txs q ≡ cond (q == tx) None (maps.get s.txs q)) → AreClaims (without_claim (claimed_in s t) claims) later
    gone-claims opening gone = staying-claims (λ q. not (q == tx)) (λ p q. ap (claim_in later p q) (gone q) ∙ by p q (q == tx) (maps.get s.txs q)) (without_claim (claimed_in s t) claims) less
      where
        same : (p : List ℕ) (q : ℕ) (o : Option Txn) → claim_in later p q o ≡ claim_in s p q o
        same p q None = refl
        same p q (Some x) = ap (λ n. cond (not (is_active x.phase && differs x.seen n) && has_path (moved_of x) p) (Some (claim_by q (moved_of x) p)) None) opening

        by : (p : List ℕ) (q : ℕ) (b : Bool) (o : Option Txn) → claim_in later p q (cond b None o) ≡ cond (not b) (claim_in s p q o) None
        by p q true o = refl
        by p q false o = same p q o

    -- ONE CLAIMS ANEW, and no two claim one path behind it
    module _ (new : Txn) (opening : later.links_opening ≡ s.links_opening) (put : (q : ℕ) → maps.get later.txs q ≡ cond (q == tx) (Some new) (maps.get s.txs q)) (still : AreApart later) where
      doomed-alike : (x : Txn) → is_doomed later x ≡ is_doomed s x
      doomed-alike x = ap (λ n. is_active x.phase && differs x.seen n) opening

      has-alike : (p : List ℕ) (q : ℕ) (x : Txn) → has_claim later p (q, x) ≡ has_claim s p (q, x)
      has-alike p q x = ap (λ b. not b && has_path (moved_of x) p) (doomed-alike x)

      in-alike : (p : List ℕ) (q : ℕ) (o : Option Txn) → claim_in later p q o ≡ claim_in s p q o
      in-alike p q None = refl
      in-alike p q (Some x) = ap (λ b. cond b (Some (claim_by q (moved_of x) p)) None) (has-alike p q x)

      here : maps.get later.txs tx ≡ Some new
      here = put tx ∙ ap (λ b. cond b (Some new) (maps.get s.txs tx)) (test-same tx tx refl)

      there : (q : ℕ) → q ≢ tx → maps.get later.txs q ≡ maps.get s.txs q
      there q other = put q ∙ ap (λ b. cond b (Some new) (maps.get s.txs q)) (test-other q tx other)

      got : (p : List ℕ) → maps.get (with_claim tx (claimed_in s new) (without_claim (claimed_in s t) claims)) p
          ≡ cond (has_claim s p (tx, new)) (Some (claim_by tx (claimed_in s new) p)) (staying (λ q. not (q == tx)) (maps.get claims p))
      got p =
          get-with tx (claimed_in s new) (without_claim (claimed_in s t) claims) p
          ∙ (λ i. cond (moved-has (is_doomed s new) (moved_of new) p i) (Some (claim_by tx (claimed_in s new) p)) (less p i))

      -- what is claimed is what is moved
      by-moved : (p : List ℕ) → has_claim s p (tx, new) ≡ true → claim_by tx (claimed_in s new) p ≡ claim_by tx (moved_of new) p
      by-moved p has = by (is_doomed s new) has
        where
          by : (d : Bool) → (not d && has_path (moved_of new) p) ≡ true → claim_by tx (claimed_by d (moved_of new)) p ≡ claim_by tx (moved_of new) p
          by true e = absurd (false_true e)
          by false e = refl

      nobody-else : (p : List ℕ) → has_claim s p (tx, new) ≡ true → (q : ℕ) → q ≢ tx → claim_in later p q (maps.get later.txs q) ≡ None
      nobody-else p has q other = by (maps.get later.txs q) refl
        where
          by : (o : Option Txn) → maps.get later.txs q ≡ o → claim_in later p q o ≡ None
          by None at = refl
          by (Some x) at = of (has_claim later p (q, x)) refl
            where
              of : (b : Bool) → has_claim later p (q, x) ≡ b → cond b (Some (claim_by q (moved_of x) p)) None ≡ None
              of true too = absurd (other (still p q tx x new at here too (has-alike p tx new ∙ has)))
              of false misses = refl

      new-only : (p : List ℕ) (b : Bool) → has_claim s p (tx, new) ≡ b → IsOnly later p (cond b (Some (claim_by tx (claimed_in s new) p)) (staying (λ q. not (q == tx)) (maps.get claims p)))
      new-only p true has q = ⊎_elim
          (λ (same : q ≡ tx).
          ap (λ n. claim_in later p n (maps.get later.txs n)) same ∙ ap (claim_in later p tx) here
          ∙ ap (λ b. cond b (Some (claim_by tx (moved_of new) p)) None) (has-alike p tx new ∙ has) ∙ ap (λ (x : PathClaim). Some x) (sym (by-moved p has))
          ∙ sym (ap (λ b. cond b (Some (claim_by tx (claimed_in s new) p)) None) (test-same tx q (sym same))))
          (λ (other : q ≢ tx). nobody-else p has q other ∙ sym (ap (λ b. cond b (Some (claim_by tx (claimed_in s new) p)) None) (test-other tx q (λ (e : tx ≡ q). other (sym e)))))
          (cases_eq q tx)
      new-only p false misses q = ⊎_elim
          (λ (same : q ≡ tx).
          ap (λ n. claim_in later p n (maps.get later.txs n)) same ∙ ap (claim_in later p tx) here
          ∙ ap (λ b. cond b (Some (claim_by tx (moved_of new) p)) None) (has-alike p tx new ∙ misses)
          ∙ sym (sym (stay-of (λ n. not (n == tx)) q (maps.get claims p)) ∙ ap (λ b. cond (not b) (of_it q (maps.get claims p)) None) (test-same q tx same)))
          (λ (other : q ≢ tx).
          ap (claim_in later p q) (there q other) ∙ in-alike p q (maps.get s.txs q) ∙ claims-only s claims apart are p q
          ∙ sym (sym (stay-of (λ n. not (n == tx)) q (maps.get claims p)) ∙ ap (λ b. cond (not b) (of_it q (maps.get claims p)) None) (test-other q tx other)))
          (cases_eq q tx)

      pub put-claims : AreClaims (with_claim tx (claimed_in s new) (without_claim (claimed_in s t) claims)) later
      put-claims = only-claims later (with_claim tx (claimed_in s new) (without_claim (claimed_in s t) claims)) (λ p. subst (IsOnly later p) (sym (got p)) (new-only p (has_claim s p (tx, new)) refl))
