-- What a transaction claims, path by path.
use Rattle.std.proofs.Common.{◌≡◌, ℕ, Bool, true, false, cond, ◌||◌, List, [], ◌∷◌, map, Option, Some, None, refl, sym, ap, ◌∙◌}
use Rattle.std.specs.Cmp.Lexicographic.{slice_cmp, nat_list_cmp_total}
use Rattle.std.specs.FinMap as maps
use Rattle.std.specs.List.{AllByRecursion, list_any}
use Rattle.std.specs.List.Sorted.{IsStrictlySortedBy}
use Rattle.std.specs.Map.{keys_of}
use Rattle.std.specs.Ordering.{is_eq, nat_cmp}
use Rattle.std.specs.declared.cmp.Ordering.TheVariants.{Less}
use Rattle.dl_base.specs.declared.value.LinkRow.{LinkRow}
use Rattle.meaning_settling.proofs.KeyedLaws.{any-append, find-none, get-put, is_at-same, same_keyed}
use Rattle.meaning_settling.specs.Apart.{has_path}
use Rattle.meaning_settling.specs.Keyed.{Keyed, is_at, over, put_at}
use Rattle.meaning_settling.specs.Settling.{Moved, on, paths_of}
use Rattle.fm_links.proofs.Entries.{Entries}
use Rattle.fm_links.specs.Claims.{PathClaim, claim_by, claim_on, claims_in, giving, laid, moved, take_of, taking, unclaimed, with_claim, without_claim}

-- one and the same change on some paths, whatever was there
module _ {X : Type 0} (f : List ℕ → Option X) where
  get-over-set : (ks : List (List ℕ)) (m : Keyed X) (q : List ℕ) → maps.get (over ks (λ k was. f k) m) q ≡ cond (list_any (is_at q) ks) (f q) (maps.get m q)
  get-over-set [] m q = refl
  get-over-set (k ∷ ks) m q =
      get-over-set ks (put_at m k (f k)) q ∙ ap (λ (o : Option X). cond (list_any (is_at q) ks) (f q) o) (get-put m k q (f k)) ∙ by (is_at q k) refl (list_any (is_at q) ks)
    where
      by : (b : Bool) → is_at q k ≡ b → (c : Bool) → cond c (f q) (cond b (f k) (maps.get m q)) ≡ cond (b || c) (f q) (maps.get m q)
      by true here true = refl
      by true here false = ap f (sym (is_at-same q k here))
      by false there c = refl

pub get-without : (m : Moved) (claims : Keyed PathClaim) (q : List ℕ) → maps.get (without_claim m claims) q ≡ cond (has_path m q) None (maps.get claims q)
unfolding without_claim
get-without m claims q = get-over-set (λ k. None) (paths_of m) claims q

pub get-with : (tx : ℕ) (m : Moved) (claims : Keyed PathClaim) (q : List ℕ) → maps.get (with_claim tx m claims) q ≡ cond (has_path m q) (Some (claim_by tx m q)) (maps.get claims q)
unfolding with_claim
get-with tx m claims q = get-over-set (λ k. Some (claim_by tx m k)) (paths_of m) claims q

-- link by link

abbrev on_path : List LinkRow → List ℕ → Bool
on_path ls q = list_any (is_at q) (map (λ l. l.path) ls)

get-unclaimed : (ls : List LinkRow) (claims : Keyed PathClaim) (q : List ℕ) → maps.get (unclaimed ls claims) q ≡ cond (on_path ls q) None (maps.get claims q)
get-unclaimed [] claims q = refl
get-unclaimed (l ∷ ls) claims q =
    get-unclaimed ls (maps.remove claims l.path) q ∙ ap (λ (o : Option PathClaim). cond (on_path ls q) None o) (maps.get-remove nat_list_cmp_total claims l.path q) ∙ by (on_path ls q) (is_at q l.path)
  where
    by : (c b : Bool) → cond c None (cond b None (maps.get claims q)) ≡ cond (b || c) None (maps.get claims q)
    by true true = refl
    by true false = refl
    by false b = alike b
      where
        alike : (b : Bool) → cond b None (maps.get claims q) ≡ cond (b || false) None (maps.get claims q)
        alike true = refl
        alike false = refl

pub unclaimed-both : (gives takes : List LinkRow) (claims : Keyed PathClaim) → unclaimed takes (unclaimed gives claims) ≡ without_claim (moved gives takes) claims
unclaimed-both gives takes claims = same_keyed _ _ (λ q.
    get-unclaimed takes (unclaimed gives claims) q ∙ ap (λ (o : Option PathClaim). cond (on_path takes q) None o) (get-unclaimed gives claims q)
    ∙ by (on_path takes q) (on_path gives q) (maps.get claims q)
    ∙ ap (λ b. cond b None (maps.get claims q)) (sym (any-append (is_at q) (map (λ l. l.path) gives) (map (λ l. l.path) takes)))
    ∙ sym (get-without (moved gives takes) claims q))
  where
    by : (c b : Bool) (o : Option PathClaim) → cond c None (cond b None o) ≡ cond (b || c) None o
    by true true o = refl
    by true false o = refl
    by false true o = refl
    by false false o = refl

abbrev takes_it : ℕ → Option LinkRow → Option PathClaim → Option PathClaim
takes_it tx None was = was
takes_it tx (Some t) was = Some (record { tx = tx; give = None; take = Some t })

get-taking : (tx : ℕ) (ts : List LinkRow) (claims : Keyed PathClaim) (q : List ℕ) → maps.get (taking tx ts claims) q ≡ takes_it tx (on ts q) (maps.get claims q)
get-taking tx [] claims q = refl
get-taking tx (t ∷ ts) claims q =
    maps.get-insert nat_list_cmp_total (taking tx ts claims) t.path (record { tx = tx; give = None; take = Some t }) q
    ∙ ap (λ (o : Option PathClaim). cond (is_at q t.path) (Some (record { tx = tx; give = None; take = Some t })) o) (get-taking tx ts claims q)
    ∙ by (is_at q t.path)
  where
    by : (b : Bool) → cond b (Some (record { tx = tx; give = None; take = Some t })) (takes_it tx (on ts q) (maps.get claims q)) ≡ takes_it tx (cond b (Some t) (on ts q)) (maps.get claims q)
    by true = refl
    by false = refl

abbrev gives_it : ℕ → Option LinkRow → Option PathClaim → Option PathClaim
gives_it tx None was = was
gives_it tx (Some g) was = Some (record { tx = tx; give = Some g; take = take_of was })

get-giving : (tx : ℕ) (gs : List LinkRow) (claims : Keyed PathClaim) (q : List ℕ) → maps.get (giving tx gs claims) q ≡ gives_it tx (on gs q) (maps.get claims q)
get-giving tx [] claims q = refl
get-giving tx (g ∷ gs) claims q =
    maps.get-insert nat_list_cmp_total (giving tx gs claims) g.path (record { tx = tx; give = Some g; take = take_of (maps.get (giving tx gs claims) g.path) }) q
    ∙ by (is_at q g.path) refl (get-giving tx gs claims q)
  where
    twice : (o : Option LinkRow) (was : Option PathClaim) → take_of (gives_it tx o was) ≡ take_of was
    twice None was = refl
    twice (Some l) was = refl

    by : (b : Bool) → is_at q g.path ≡ b → maps.get (giving tx gs claims) q ≡ gives_it tx (on gs q) (maps.get claims q)
        → cond b (Some (record { tx = tx; give = Some g; take = take_of (maps.get (giving tx gs claims) g.path) })) (maps.get (giving tx gs claims) q) ≡ gives_it tx (cond b (Some g) (on gs q)) (maps.get claims q)
    by true here rest =
        ap (λ (o : Option LinkRow). Some (record { tx = tx; give = Some g; take = o }))
        (ap (λ (p : List ℕ). take_of (maps.get (giving tx gs claims) p)) (sym (is_at-same q g.path here)) ∙ ap take_of rest ∙ twice (on gs q) (maps.get claims q))
    by false there rest = rest

-- of links there is one on a path exactly where one is found
some-on : (ls : List LinkRow) (q : List ℕ) (l : LinkRow) → on ls q ≡ Some l → on_path ls q ≡ true
some-on ls q l e = by (on_path ls q) refl
  where
    none_some : None ≡ Some l → ⊥
    none_some x = cc

    by : (b : Bool) → on_path ls q ≡ b → b ≡ true
    by true is = refl
    by false is = absurd (none_some (sym (find-none (λ (x : LinkRow). x.path) ls q is) ∙ e))

none-on : (ls : List LinkRow) (q : List ℕ) → on ls q ≡ None → on_path ls q ≡ false
none-on [] q e = refl
none-on (l ∷ ls) q e = by (is_at q l.path) e (none-on ls q)
  where
    by : (b : Bool) → cond b (Some l) (on ls q) ≡ None → (on ls q ≡ None → on_path ls q ≡ false) → (b || on_path ls q) ≡ false
    by true is rest = cc
    by false is rest = rest is

pub claimed-both : (tx : ℕ) (gives takes : List LinkRow) → giving tx gives (taking tx takes maps.empty) ≡ with_claim tx (moved gives takes) maps.empty
claimed-both tx gives takes = same_keyed _ _ (λ q.
    get-giving tx gives (taking tx takes maps.empty) q
    ∙ ap (λ (o : Option PathClaim). gives_it tx (on gives q) o) (get-taking tx takes maps.empty q ∙ ap (λ (o : Option PathClaim). takes_it tx (on takes q) o) (maps.get-empty (slice_cmp nat_cmp) q))
    ∙ by q (on gives q) (on takes q) refl refl
    ∙ ap (λ b. cond b (Some (claim_by tx (moved gives takes) q)) None) (sym (any-append (is_at q) (map (λ l. l.path) gives) (map (λ l. l.path) takes)))
    ∙ ap (λ (o : Option PathClaim). cond (has_path (moved gives takes) q) (Some (claim_by tx (moved gives takes) q)) o) (sym (maps.get-empty (slice_cmp nat_cmp) q))
    ∙ sym (get-with tx (moved gives takes) maps.empty q))
  where
    chosen : (q : List ℕ) (b c : Bool) (g t : Option LinkRow) → (b || c) ≡ true → on_path gives q ≡ b → on_path takes q ≡ c → on gives q ≡ g → on takes q ≡ t
        → Some (record { tx = tx; give = g; take = t }) ≡ cond (on_path gives q || on_path takes q) (Some (claim_by tx (moved gives takes) q)) None
    chosen q b c g t any is_b is_c is_g is_t =
        (λ i. Some (record { tx = tx; give = sym is_g i; take = sym is_t i }))
        ∙ ap (λ x. cond x (Some (claim_by tx (moved gives takes) q)) None) (sym ((λ i. is_b i || is_c i) ∙ any))

    by : (q : List ℕ) (g t : Option LinkRow) → on gives q ≡ g → on takes q ≡ t → gives_it tx g (takes_it tx t None) ≡ cond (on_path gives q || on_path takes q) (Some (claim_by tx (moved gives takes) q)) None
    by q None None is_g is_t = λ i. cond (sym (none-on gives q is_g) i || sym (none-on takes q is_t) i) (Some (claim_by tx (moved gives takes) q)) None
    by q None (Some t) is_g is_t = chosen q false true None (Some t) refl (none-on gives q is_g) (some-on takes q t is_t) is_g is_t
    by q (Some g) None is_g is_t = chosen q true false (Some g) None refl (some-on gives q g is_g) (none-on takes q is_t) is_g is_t
    by q (Some g) (Some t) is_g is_t = chosen q true true (Some g) (Some t) refl (some-on gives q g is_g) (some-on takes q t is_t) is_g is_t

-- claims laid over others

abbrev over_it : Option PathClaim → Option PathClaim → Option PathClaim
over_it None was = was
over_it (Some c) was = Some c

missed : (k : List ℕ) (es : Entries) → AllByRecursion (λ y. slice_cmp nat_cmp k y ≡ Less) (keys_of es) → maps.get (claims_in es) k ≡ None
missed k [] all = maps.get-empty (slice_cmp nat_cmp) k
missed k (e ∷ es) all =
    maps.get-insert nat_list_cmp_total (claims_in es) e.0 (claim_on e.0 e.1) k
    ∙ ap (λ r. cond (is_eq r) (Some (claim_on e.0 e.1)) (maps.get (claims_in es) k)) all.0 ∙ missed k es all.1

get-laid : (es : Entries) → IsStrictlySortedBy (slice_cmp nat_cmp) (keys_of es) → (claims : Keyed PathClaim) (q : List ℕ) → maps.get (laid es claims) q ≡ over_it (maps.get (claims_in es) q) (maps.get claims q)
unfolding IsStrictlySortedBy
get-laid [] asc claims q = ap (λ (o : Option PathClaim). over_it o (maps.get claims q)) (sym (maps.get-empty (slice_cmp nat_cmp) q))
get-laid (e ∷ es) asc claims q =
    get-laid es asc.1 (maps.insert claims e.0 (claim_on e.0 e.1)) q
    ∙ ap (λ (o : Option PathClaim). over_it (maps.get (claims_in es) q) o) (maps.get-insert nat_list_cmp_total claims e.0 (claim_on e.0 e.1) q)
    ∙ by (is_at q e.0) refl
    ∙ ap (λ (o : Option PathClaim). over_it o (maps.get claims q)) (sym (maps.get-insert nat_list_cmp_total (claims_in es) e.0 (claim_on e.0 e.1) q))
  where
    by : (b : Bool) → is_at q e.0 ≡ b → over_it (maps.get (claims_in es) q) (cond b (Some (claim_on e.0 e.1)) (maps.get claims q)) ≡ over_it (cond b (Some (claim_on e.0 e.1)) (maps.get (claims_in es) q)) (maps.get claims q)
    by true here = ap (λ (o : Option PathClaim). over_it o (Some (claim_on e.0 e.1))) (ap (maps.get (claims_in es)) (is_at-same q e.0 here) ∙ missed e.0 es asc.0)
    by false there = refl

pub laid-claim : (es : Entries) → IsStrictlySortedBy (slice_cmp nat_cmp) (keys_of es) → (tx : ℕ) (m : Moved) → claims_in es ≡ with_claim tx m maps.empty → (claims : Keyed PathClaim) → laid es claims ≡ with_claim tx m claims
laid-claim es asc tx m made claims = same_keyed _ _ (λ q.
    get-laid es asc claims q
    ∙ ap (λ (o : Option PathClaim). over_it o (maps.get claims q)) (ap (λ (x : Keyed PathClaim). maps.get x q) made ∙ get-with tx m maps.empty q ∙ ap (λ (o : Option PathClaim). cond (has_path m q) (Some (claim_by tx m q)) o) (maps.get-empty (slice_cmp nat_cmp) q))
    ∙ by q (has_path m q)
    ∙ sym (get-with tx m claims q))
  where
    by : (q : List ℕ) (b : Bool) → over_it (cond b (Some (claim_by tx m q)) None) (maps.get claims q) ≡ cond b (Some (claim_by tx m q)) (maps.get claims q)
    by q true = refl
    by q false = refl
