-- Resolve takes away exactly the decided and prepared transactions that no session has, and their claims go.
use Rattle.std.proofs.Common.{◌≡◌, ℕ, List, [], ◌∷◌, Bool, true, false, not, cond, ◌==◌, ◌&&◌, ◌||◌, Option, Some, None, is_some, refl, sym, ◌∙◌, ap, subst, arith}
use Rattle.std.proofs.lemmas.Bool.Decides.{nat_tests}
use Rattle.std.specs.Cmp.{unsigned_tied}
use Rattle.std.specs.FinMap as maps
use Rattle.std.specs.List.{list_any}
use Rattle.std.specs.Ordering.{nat_cmp}
use Rattle.dl_base.specs.declared.step.Phase.{Phase}
use Rattle.dl_base.specs.declared.step.Phase.TheVariants as phases
use Rattle.dl_base.specs.declared.step.Step.TheVariants as steps
use Rattle.meaning_areas.proofs.Steps.{agrees-of}
use Rattle.meaning_areas.proofs.Tables.{some_same}
use Rattle.meaning_areas.specs.Commits.{Commit, commit_of}
use Rattle.meaning_areas.specs.Joint.{Joint}
use Rattle.meaning_areas.specs.Lists.{Folds}
use Rattle.meaning_settling.specs.Keyed.{Keyed}
use Rattle.meaning_settling.specs.Settling.{Moved}
use Rattle.meaning_system.proofs.Kept.{resolve-same}
use Rattle.meaning_system.proofs.Leading.{decided-work, works-are}
use Rattle.meaning_system.proofs.Resolved.{gone-at, is-decided}
use Rattle.meaning_system.specs.CoreOf.{IsLive, core_of, work_by}
use Rattle.meaning_system.specs.Following.{Follows}
use Rattle.meaning_system.specs.Machine.{drop_all, drop_left, finish_all, finish_left, is_bound, is_left_in, resolve, settled_by, step}
use Rattle.meaning_system.specs.State.{State, Txn, is_active, is_decided, is_left, is_prepared, moved_of, without_txn}
use Rattle.meaning_history.specs.Sound.{AreSound}
use Rattle.fm_links.proofs.Behind.{gone-claims, staying-claims}
use Rattle.fm_links.proofs.Searching.{are-apart, claim_in}
use Rattle.fm_links.proofs.Steps.{bound-claimed}
use Rattle.fm_links.specs.Claims.{PathClaim, without_claim}
use Rattle.fm_links.specs.Searching.{AreClaims}
use Rattle.fm_links.specs.Stepping.{staying, stays_resolved, unless}

false_true : false ≡ true → ⊥
false_true e = cc

none_some : {A : Type 0} (x : A) → None ≡ Some x → ⊥
none_some x e = cc

same-number : (x y : ℕ) → (x == y) ≡ true → x ≡ y
same-number x y e = grind (arith, nat_tests)

both : (a b : Bool) → (a && b) ≡ true → (a ≡ true) × (b ≡ true)
both true b e = (refl, e)
both false b e = absurd (false_true e)

-- ONE OF THEM, in the middle of Resolve

rests : (p : Phase) → is_decided p ≡ true → is_active p ≡ false
rests phases.Active e = absurd (false_true e)
rests phases.Prepared e = refl
rests phases.Decided e = refl
rests phases.Finished e = refl
rests phases.Dropped e = refl

waits : (p : Phase) → is_prepared p ≡ true → is_active p ≡ false
waits phases.Active e = absurd (false_true e)
waits phases.Prepared e = refl
waits phases.Decided e = refl
waits phases.Finished e = refl
waits phases.Dropped e = refl

module _ (f : Folds) (s : State) (joint : Joint f (core_of s)) (claims : Keyed PathClaim) (are : AreClaims claims s) (tx : ℕ) (t : Txn) (at : maps.get s.txs tx ≡ Some t) where
  gone : (later : State) → later.links_opening ≡ s.links_opening → later.txs ≡ s.txs → is_active t.phase ≡ false → AreClaims (without_claim (moved_of t) claims) (without_txn later tx)
  gone later opening txs idle = subst (λ (m : Moved). AreClaims (without_claim m claims) (without_txn later tx)) (bound-claimed s t idle)
      (gone-claims s (without_txn later tx) claims (are-apart f s joint) are tx t at opening (λ q. gone-at later tx q ∙ ap (λ (m : maps.FinMap nat_cmp Txn). cond (q == tx) None (maps.get m q)) txs))

  pub finished-left : AreClaims (unless (not (is_left_in s is_decided (tx, t))) (moved_of t) claims) (finish_left s tx (maps.get s.txs tx))
  finished-left = subst (λ (o : Option Txn). AreClaims (unless (not (is_left_in s is_decided (tx, t))) (moved_of t) claims) (finish_left s tx o)) (sym at) (by (is_left_in s is_decided (tx, t)) refl)
    where
      by : (b : Bool) → is_left_in s is_decided (tx, t) ≡ b → AreClaims (unless (not b) (moved_of t) claims) (cond b (without_txn (settled_by s t) tx) s)
      by true is = gone (settled_by s t) refl refl (rests t.phase (both (is_left s tx) (is_decided t.phase) is).1)
      by false is = are

  pub dropped-left : AreClaims (unless (not (is_left_in s is_prepared (tx, t))) (moved_of t) claims) (drop_left s tx (maps.get s.txs tx))
  dropped-left = subst (λ (o : Option Txn). AreClaims (unless (not (is_left_in s is_prepared (tx, t))) (moved_of t) claims) (drop_left s tx o)) (sym at) (by (is_left_in s is_prepared (tx, t)) refl)
    where
      by : (b : Bool) → is_left_in s is_prepared (tx, t) ≡ b → AreClaims (unless (not b) (moved_of t) claims) (cond b (without_txn s tx) s)
      by true is = gone s refl refl (waits t.phase (both (is_left s tx) (is_prepared t.phase) is).1)
      by false is = are

-- ALL OF THEM

abbrev left_at : State → (Phase → Bool) → ℕ → Option Txn → Bool
left_at s test q None = false
left_at s test q (Some t) = is_left_in s test (q, t)

and-false : (b : Bool) → (b && false) ≡ false
and-false true = refl
and-false false = refl

alike-none : (b : Bool) → ◌≡◌ {A = Option Txn} (cond b None None) None
alike-none true = refl
alike-none false = refl

-- one step of either kind, as both end it
module _ (test : Phase → Bool) (s later : State) (tx : ℕ)
    (ends : (t : Txn) → maps.get s.txs tx ≡ Some t → is_left_in s test (tx, t) ≡ true → (q : ℕ) → maps.get later.txs q ≡ cond (q == tx) None (maps.get s.txs q))
    (stays : left_at s test tx (maps.get s.txs tx) ≡ false → (q : ℕ) → maps.get later.txs q ≡ maps.get s.txs q) where
  one-at : (q : ℕ) → maps.get later.txs q ≡ cond ((q == tx) && left_at s test q (maps.get s.txs q)) None (maps.get s.txs q)
  one-at q = by (maps.get s.txs tx) refl
    where
      here : (b : Bool) → left_at s test tx (maps.get s.txs tx) ≡ b → (c : Bool) → (q == tx) ≡ c → cond c (cond b None (maps.get s.txs q)) (maps.get s.txs q) ≡ cond (c && left_at s test q (maps.get s.txs q)) None (maps.get s.txs q)
      here b is false other = refl
      here b is true same = ap (λ x. cond x None (maps.get s.txs q)) (sym is ∙ ap (λ n. left_at s test n (maps.get s.txs n)) (sym (same-number q tx same)))

      swapped : (b c : Bool) (o : Option Txn) → cond c (cond b None o) o ≡ cond (c && b) None o
      swapped b true o = refl
      swapped b false o = refl

      of : (b : Bool) → left_at s test tx (maps.get s.txs tx) ≡ b → maps.get later.txs q ≡ cond (q == tx) (cond b None (maps.get s.txs q)) (maps.get s.txs q) → maps.get later.txs q ≡ cond ((q == tx) && left_at s test q (maps.get s.txs q)) None (maps.get s.txs q)
      of b is e = e ∙ here b is (q == tx) refl

      unchanged : (c : Bool) (o : Option Txn) → o ≡ cond c o o
      unchanged true o = refl
      unchanged false o = refl

      by : (o : Option Txn) → maps.get s.txs tx ≡ o → maps.get later.txs q ≡ cond ((q == tx) && left_at s test q (maps.get s.txs q)) None (maps.get s.txs q)
      by None at = of false (ap (left_at s test tx) at) (stays (ap (left_at s test tx) at) q ∙ unchanged (q == tx) (maps.get s.txs q))
      by (Some t) at = chosen (is_left_in s test (tx, t)) refl
        where
          chosen : (b : Bool) → is_left_in s test (tx, t) ≡ b → maps.get later.txs q ≡ cond ((q == tx) && left_at s test q (maps.get s.txs q)) None (maps.get s.txs q)
          chosen true is = of true (ap (left_at s test tx) at ∙ is) (ends t at is q)
          chosen false is = of false (ap (left_at s test tx) at ∙ is) (stays (ap (left_at s test tx) at ∙ is) q ∙ unchanged (q == tx) (maps.get s.txs q))

  -- and then the rest of them
  and-more : later.sessions ≡ s.sessions → (q : ℕ) (more : Bool) (o : Option Txn) → o ≡ cond (more && left_at later test q (maps.get later.txs q)) None (maps.get later.txs q)
      → o ≡ cond (((q == tx) || more) && left_at s test q (maps.get s.txs q)) None (maps.get s.txs q)
  and-more sessions q more o e =
      e ∙ ap (λ (x : Option Txn). cond (more && left_at later test q x) None x) (one-at q)
      ∙ by (q == tx) (left_at s test q (maps.get s.txs q)) refl
    where
      alike : (x : Option Txn) → left_at later test q x ≡ left_at s test q x
      alike None = refl
      alike (Some t) = ap (λ (m : maps.FinMap nat_cmp ℕ). is_left (record s { sessions = m }) q && test t.phase) sessions

      by : (c l : Bool) → left_at s test q (maps.get s.txs q) ≡ l
          → cond (more && left_at later test q (cond (c && l) None (maps.get s.txs q))) None (cond (c && l) None (maps.get s.txs q)) ≡ cond ((c || more) && l) None (maps.get s.txs q)
      by true true is = alike-none (more && false)
      by true false is = ap (λ x. cond (more && x) None (maps.get s.txs q)) (alike (maps.get s.txs q) ∙ is) ∙ ap (λ x. cond x None (maps.get s.txs q)) (and-false more)
      by false l is = ap (λ x. cond (more && x) None (maps.get s.txs q)) (alike (maps.get s.txs q) ∙ is)

-- finishing

module _ (s : State) (tx : ℕ) where
  finish-ends : (o : Option Txn) → maps.get s.txs tx ≡ o → (t : Txn) → o ≡ Some t → is_left_in s is_decided (tx, t) ≡ true → (q : ℕ) → maps.get (finish_left s tx o).txs q ≡ cond (q == tx) None (maps.get s.txs q)
  finish-ends None at t is left q = absurd (none_some t is)
  finish-ends (Some x) at t is left q =
      let same : is_left_in s is_decided (tx, x) ≡ true = ap (λ (y : Txn). is_left_in s is_decided (tx, y)) (some_same x t is) ∙ left in
      ap (λ b. maps.get (cond b (without_txn (settled_by s x) tx) s).txs q) same ∙ gone-at (settled_by s x) tx q

  finish-stays : (o : Option Txn) → left_at s is_decided tx o ≡ false → (q : ℕ) → maps.get (finish_left s tx o).txs q ≡ maps.get s.txs q
  finish-stays None misses q = refl
  finish-stays (Some x) misses q = ap (λ b. maps.get (cond b (without_txn (settled_by s x) tx) s).txs q) misses

  finish-sessions : (o : Option Txn) → (finish_left s tx o).sessions ≡ s.sessions
  finish-sessions None = refl
  finish-sessions (Some x) = by (is_left_in s is_decided (tx, x))
    where
      by : (b : Bool) → (cond b (without_txn (settled_by s x) tx) s).sessions ≡ s.sessions
      by true = refl
      by false = refl

  drop-ends : (o : Option Txn) → maps.get s.txs tx ≡ o → (t : Txn) → o ≡ Some t → is_left_in s is_prepared (tx, t) ≡ true → (q : ℕ) → maps.get (drop_left s tx o).txs q ≡ cond (q == tx) None (maps.get s.txs q)
  drop-ends None at t is left q = absurd (none_some t is)
  drop-ends (Some x) at t is left q =
      let same : is_left_in s is_prepared (tx, x) ≡ true = ap (λ (y : Txn). is_left_in s is_prepared (tx, y)) (some_same x t is) ∙ left in
      ap (λ b. maps.get (cond b (without_txn s tx) s).txs q) same ∙ gone-at s tx q

  drop-stays : (o : Option Txn) → left_at s is_prepared tx o ≡ false → (q : ℕ) → maps.get (drop_left s tx o).txs q ≡ maps.get s.txs q
  drop-stays None misses q = refl
  drop-stays (Some x) misses q = ap (λ b. maps.get (cond b (without_txn s tx) s).txs q) misses

  drop-sessions : (o : Option Txn) → (drop_left s tx o).sessions ≡ s.sessions
  drop-sessions None = refl
  drop-sessions (Some x) = by (is_left_in s is_prepared (tx, x))
    where
      by : (b : Bool) → (cond b (without_txn s tx) s).sessions ≡ s.sessions
      by true = refl
      by false = refl

all-finished : (cs : List Commit) (s : State) (q : ℕ) → maps.get (finish_all s cs).txs q ≡ cond (list_any (λ c. q == c.tx) cs && left_at s is_decided q (maps.get s.txs q)) None (maps.get s.txs q)
all-finished [] s q = refl
all-finished (c ∷ cs) s q =
    let later = finish_left s c.tx (maps.get s.txs c.tx) in
    and-more is_decided s later c.tx (λ t at left. finish-ends s c.tx (maps.get s.txs c.tx) refl t at left) (λ misses. finish-stays s c.tx (maps.get s.txs c.tx) misses)
    (finish-sessions s c.tx (maps.get s.txs c.tx)) q (list_any (λ c. q == c.tx) cs) (maps.get (finish_all later cs).txs q) (all-finished cs later q)

all-dropped : (ks : List ℕ) (s : State) (q : ℕ) → maps.get (drop_all s ks).txs q ≡ cond (list_any (λ k. q == k) ks && left_at s is_prepared q (maps.get s.txs q)) None (maps.get s.txs q)
all-dropped [] s q = refl
all-dropped (k ∷ ks) s q =
    let later = drop_left s k (maps.get s.txs k) in
    and-more is_prepared s later k (λ t at left. drop-ends s k (maps.get s.txs k) refl t at left) (λ misses. drop-stays s k (maps.get s.txs k) misses)
    (drop-sessions s k (maps.get s.txs k)) q (list_any (λ k. q == k) ks) (maps.get (drop_all later ks).txs q) (all-dropped ks later q)

all-sessions : (cs : List Commit) (s : State) → (finish_all s cs).sessions ≡ s.sessions
all-sessions [] s = refl
all-sessions (c ∷ cs) s = all-sessions cs (finish_left s c.tx (maps.get s.txs c.tx)) ∙ finish-sessions s c.tx (maps.get s.txs c.tx)

-- a number with a commit is among those of commits
committed-there : (q : ℕ) (cs : List Commit) (c : Commit) → commit_of q cs ≡ Some c → list_any (λ x. q == x.tx) cs ≡ true
committed-there q [] c e = absurd (none_some c e)
committed-there q (x ∷ xs) c e = by (x.tx == q) refl e (committed-there q xs c)
  where
    turned : (a b : ℕ) → (b == a) ≡ (a == b)
    turned a b = grind (arith, nat_tests)

    or-true : (a b : Bool) → b ≡ true → (a || b) ≡ true
    or-true true b e = refl
    or-true false b e = e

    by : (b : Bool) → (x.tx == q) ≡ b → cond b (Some x) (commit_of q xs) ≡ Some c → (commit_of q xs ≡ Some c → list_any (λ y. q == y.tx) xs ≡ true) → ((q == x.tx) || list_any (λ y. q == y.tx) xs) ≡ true
    by true same found rest = ap (λ b. b || list_any (λ y. q == y.tx) xs) (turned x.tx q ∙ same)
    by false other found rest = or-true (q == x.tx) (list_any (λ y. q == y.tx) xs) (rest found)

-- a key of the map is among its keys
key-there : (m : maps.FinMap nat_cmp Txn) (q : ℕ) (t : Txn) → maps.get m q ≡ Some t → list_any (λ k. q == k) (maps.keys m) ≡ true
key-there m q t at = ap (λ (p : ℕ → Bool). list_any p (maps.keys m)) (λ i k. sym (unsigned_tied q k) i) ∙ sym (maps.contains_key-keys m q) ∙ ap is_some at

module _ (first : ℕ) (f : Folds) (s : State) (sound : AreSound first f s) where
  follows : Follows f s
  follows = sound.follows

  decided-there : (q : ℕ) (t : Txn) → maps.get s.txs q ≡ Some t → t.phase ≡ phases.Decided → list_any (λ c. q == c.tx) s.commits ≡ true
  decided-there q t at is =
      let here = works-are f s follows q t at (work_by phases.Decided (moved_of t)) (decided-work f s follows q t at is) in
      let c = (agrees-of f (core_of s) follows.joint q (work_by phases.Decided (moved_of t)) here).0 in
      committed-there q s.commits c.commit (ap (commit_of q) (sym follows.joint.commits) ∙ c.at)

  -- of one transaction, by its phase: K says that it is looked at, C that it has a commit
  ends : (t : Txn) (K C : Bool) → K ≡ true → (p : Phase) → IsLive p → (is_decided p ≡ true → C ≡ true) → (l : Bool)
      → cond (C && (l && is_decided p)) None (cond (K && (l && is_prepared p)) None (Some t)) ≡ cond (not (l && not (is_active p))) (Some t) None
  ends t K C k phases.Active live c true = λ i. cond (and-false C i) None (cond (and-false K i) None (Some t))
  ends t K C k phases.Active live c false = λ i. cond (and-false C i) None (cond (and-false K i) None (Some t))
  ends t K C k phases.Prepared live c true = λ i. cond (and-false C i) None (cond (k i && true) None (Some t))
  ends t K C k phases.Prepared live c false = λ i. cond (and-false C i) None (cond (and-false K i) None (Some t))
  ends t K C k phases.Decided live c true = λ i. cond (c refl i && true) None (cond (K && false) None (Some t))
  ends t K C k phases.Decided live c false = λ i. cond (and-false C i) None (cond (and-false K i) None (Some t))
  ends t K C k phases.Finished live c l = absurd live
  ends t K C k phases.Dropped live c l = absurd live

  -- what dropping leaves behind finishing
  looked-at : (q : ℕ) (t : Txn) (b : Bool)
      → cond (list_any (λ k. q == k) (maps.keys s.txs) && left_at (finish_all s s.commits) is_prepared q (cond b None (Some t))) None (cond b None (Some t))
      ≡ cond b None (cond (list_any (λ k. q == k) (maps.keys s.txs) && (is_left s q && is_prepared t.phase)) None (Some t))
  looked-at q t true = alike-none (list_any (λ k. q == k) (maps.keys s.txs) && false)
  looked-at q t false =
      ap (λ (m : maps.FinMap nat_cmp ℕ). cond (list_any (λ k. q == k) (maps.keys s.txs) && (is_left (record s { sessions = m }) q && is_prepared t.phase)) None (Some t)) (all-sessions s.commits s)

  resolved-at : (q : ℕ) → maps.get (resolve s).1.txs q ≡ cond (stays_resolved s q) (maps.get s.txs q) None
  resolved-at q =
      all-dropped (maps.keys s.txs) (finish_all s s.commits) q
      ∙ ap (λ (x : Option Txn). cond (list_any (λ k. q == k) (maps.keys s.txs) && left_at (finish_all s s.commits) is_prepared q x) None x) (all-finished s.commits s q)
      ∙ by (maps.get s.txs q) refl
    where
      by : (o : Option Txn) → maps.get s.txs q ≡ o
          → cond (list_any (λ k. q == k) (maps.keys s.txs) && left_at (finish_all s s.commits) is_prepared q (cond (list_any (λ c. q == c.tx) s.commits && left_at s is_decided q o) None o)) None (cond (list_any (λ c. q == c.tx) s.commits && left_at s is_decided q o) None o)
          ≡ cond (not (is_left s q && is_bound o)) o None
      by None at =
          ap (λ (x : Option Txn). cond (list_any (λ k. q == k) (maps.keys s.txs) && left_at (finish_all s s.commits) is_prepared q x) None x) (alike-none (list_any (λ c. q == c.tx) s.commits && false))
          ∙ alike-none (list_any (λ k. q == k) (maps.keys s.txs) && false) ∙ sym (alike-none (not (is_left s q && false)))
      by (Some t) at =
          looked-at q t (list_any (λ c. q == c.tx) s.commits && (is_left s q && is_decided t.phase))
          ∙ ends t (list_any (λ k. q == k) (maps.keys s.txs)) (list_any (λ c. q == c.tx) s.commits) (key-there s.txs q t at) t.phase (sound.claims.live q t at)
          (λ decided. decided-there q t at (is-decided t.phase decided)) (is_left s q)

  pub resolve-claims : (claims later : Keyed PathClaim) → AreClaims claims s → ((p : List ℕ) → maps.get later p ≡ staying (stays_resolved s) (maps.get claims p)) → AreClaims later (step s steps.Resolve).1
  unfolding step
  resolve-claims claims later are stay = staying-claims s (resolve s).1 claims (are-apart f s follows.joint) are (stays_resolved s)
      (λ p q. ap (claim_in (resolve s).1 p q) (resolved-at q) ∙ by p q (stays_resolved s q) (maps.get s.txs q)) later stay
    where
      opening : (resolve s).1.links_opening ≡ s.links_opening
      opening = resolve-same (λ (x : State). x.links_opening) (λ x tx. refl) (λ x t. refl) s

      alike : (p : List ℕ) (q : ℕ) (o : Option Txn) → claim_in (resolve s).1 p q o ≡ claim_in s p q o
      alike p q None = refl
      alike p q (Some x) = ap (λ n. claim_in (record s { links_opening = n }) p q (Some x)) opening

      by : (p : List ℕ) (q : ℕ) (b : Bool) (o : Option Txn) → claim_in (resolve s).1 p q (cond b o None) ≡ cond b (claim_in s p q o) None
      by p q true o = alike p q o
      by p q false o = refl
