-- Maps from numbers, and lists of commits.
use Rattle.std.proofs.Common.{◌≡◌, ◌≢◌, ◌⊎◌, inl, inr, ⊎_elim, ℕ, List, [], ◌∷◌, ◌++◌, Bool, true, false, cond, ◌==◌, Option, Some, None, is_some, refl, sym, ◌∙◌, ap, arith}
use Rattle.std.proofs.lemmas.Bool.{cases_eq}
use Rattle.std.proofs.lemmas.Bool.Decides.{nat_tests}
use Rattle.std.specs.Ordering.{nat_cmp}
use Rattle.std.specs.Cmp.{nat_cmp_total, unsigned_tied}
use Rattle.std.specs.FinMap as maps
use Rattle.std.specs.FinMap.{get-insert}
use Rattle.dl_base.specs.declared.value.LinkRow.{LinkRow}
use Rattle.meaning_settling.specs.Settled.{IsIn, IsNot, AreDistinct}
use Rattle.meaning_settling.specs.Settling.{numbered}
use Rattle.meaning_tables.specs.Links.{links}
use Rattle.meaning_areas.specs.Commits.{Commit, commit_of, has_number, tables_after}
use Rattle.meaning_areas.specs.Stands.{txs_of, IsCommit}

pub test-same : (x y : ℕ) → x ≡ y → (x == y) ≡ true
test-same x y is = grind (arith, nat_tests)

pub test-other : (x y : ℕ) → x ≢ y → (x == y) ≡ false
test-other x y other = grind (arith, nat_tests)

pub some_same : {A : Type 0} (x y : A) → Some x ≡ Some y → x ≡ y
some_same x y e = cc

pub not_none : {A : Type 0} (x : A) (o : Option A) → o ≡ Some x → o ≡ None → ⊥
not_none x o is none = cc

pub some_none : {A : Type 0} (o : Option A) → is_some o ≡ true → o ≡ None → ⊥
some_none o some none = cc

pub the_some : {A : Type 0} (o : Option A) → is_some o ≡ true → (x : A) × (o ≡ Some x)
the_some (Some x) e = (x, refl)
the_some None e = absurd cc

module _ {X : Type 0} (m : maps.FinMap nat_cmp X) (k : ℕ) (v : X) where
  pub get-at : (q : ℕ) → maps.get (maps.insert m k v) q ≡ cond (q == k) (Some v) (maps.get m q)
  get-at q = get-insert nat_cmp_total m k v q ∙ ap (λ b. cond b (Some v) (maps.get m q)) (unsigned_tied q k)

  pub get-here : maps.get (maps.insert m k v) k ≡ Some v
  get-here = get-at k ∙ ap (λ b. cond b (Some v) (maps.get m k)) (test-same k k refl)

  pub get-there : (q : ℕ) → q ≢ k → maps.get (maps.insert m k v) q ≡ maps.get m q
  get-there q other = get-at q ∙ ap (λ b. cond b (Some v) (maps.get m q)) (test-other q k other)

-- commits

pub commit-number : (tx : ℕ) (c : Commit) (cs : List Commit) → commit_of tx cs ≡ Some c → c.tx ≡ tx
commit-number tx c [] is = absurd cc
commit-number tx c (d ∷ ds) is = ⊎_elim
    (λ (e : d.tx ≡ tx). ap (λ (x : Commit). x.tx) (sym (some_same d c (ap (λ b. cond b (Some d) (commit_of tx ds)) (sym (test-same d.tx tx e)) ∙ is))) ∙ e)
    (λ (other : d.tx ≢ tx). commit-number tx c ds (ap (λ b. cond b (Some d) (commit_of tx ds)) (sym (test-other d.tx tx other)) ∙ is))
    (cases_eq d.tx tx)

pub commit-in : (tx : ℕ) (cs : List Commit) → is_some (commit_of tx cs) ≡ true → IsIn tx (txs_of cs)
commit-in tx [] is = absurd cc
commit-in tx (d ∷ ds) is = ⊎_elim
    (λ (e : d.tx ≡ tx). inl (sym e))
    (λ (other : d.tx ≢ tx). inr (commit-in tx ds (ap (λ b. is_some (cond b (Some d) (commit_of tx ds))) (sym (test-other d.tx tx other)) ∙ is)))
    (cases_eq d.tx tx)

pub in-commit : (tx : ℕ) (cs : List Commit) → IsIn tx (txs_of cs) → is_some (commit_of tx cs) ≡ true
in-commit tx [] is = absurd is
in-commit tx (d ∷ ds) is = ⊎_elim
    (λ (e : d.tx ≡ tx). ap (λ b. is_some (cond b (Some d) (commit_of tx ds))) (test-same d.tx tx e))
    (λ (other : d.tx ≢ tx). ⊎_elim (λ (e : tx ≡ d.tx). absurd (other (sym e))) (λ (later : IsIn tx (txs_of ds)). ap (λ b. is_some (cond b (Some d) (commit_of tx ds))) (test-other d.tx tx other) ∙ in-commit tx ds later) is)
    (cases_eq d.tx tx)

pub commit-is : (tx : ℕ) (c : Commit) (cs : List Commit) → commit_of tx cs ≡ Some c → IsCommit c cs
commit-is tx c [] is = absurd cc
commit-is tx c (d ∷ ds) is = ⊎_elim
    (λ (e : d.tx ≡ tx). inl (sym (some_same d c (ap (λ b. cond b (Some d) (commit_of tx ds)) (sym (test-same d.tx tx e)) ∙ is))))
    (λ (other : d.tx ≢ tx). inr (commit-is tx c ds (ap (λ b. cond b (Some d) (commit_of tx ds)) (sym (test-other d.tx tx other)) ∙ is)))
    (cases_eq d.tx tx)

-- one more commit, of a transaction that had none
pub commit_of-push : (c : Commit) (q : ℕ) (cs : List Commit) → commit_of c.tx cs ≡ None → commit_of q (cs ++ c ∷ []) ≡ cond (c.tx == q) (Some c) (commit_of q cs)
commit_of-push c q [] none = refl
commit_of-push c q (d ∷ ds) none = ⊎_elim
    (λ (e : d.tx ≡ c.tx). absurd (not_none d _ (ap (λ b. cond b (Some d) (commit_of c.tx ds)) (test-same d.tx c.tx e)) none))
    (λ (other : d.tx ≢ c.tx).
    let rest : commit_of c.tx ds ≡ None = ap (λ b. cond b (Some d) (commit_of c.tx ds)) (sym (test-other d.tx c.tx other)) ∙ none in
    ap (cond (d.tx == q) (Some d)) (commit_of-push c q ds rest) ∙ swapped (d.tx == q) (c.tx == q) (λ a b. other (is_same d.tx q a ∙ sym (is_same c.tx q b))))
    (cases_eq d.tx c.tx)
  where
    is_same : (x y : ℕ) → (x == y) ≡ true → x ≡ y
    is_same x y e = grind (arith, nat_tests)

    swapped : (a b : Bool) → (a ≡ true → b ≡ true → ⊥) → cond a (Some d) (cond b (Some c) (commit_of q ds)) ≡ cond b (Some c) (cond a (Some d) (commit_of q ds))
    swapped true true never = absurd (never refl refl)
    swapped true false never = refl
    swapped false b never = refl

pub commit_of-here : (c : Commit) (cs : List Commit) → commit_of c.tx cs ≡ None → commit_of c.tx (cs ++ c ∷ []) ≡ Some c
commit_of-here c cs none = commit_of-push c c.tx cs none ∙ ap (λ b. cond b (Some c) (commit_of c.tx cs)) (test-same c.tx c.tx refl)

pub commit_of-there : (c : Commit) (q : ℕ) (cs : List Commit) → commit_of c.tx cs ≡ None → q ≢ c.tx → commit_of q (cs ++ c ∷ []) ≡ commit_of q cs
commit_of-there c q cs none other = commit_of-push c q cs none ∙ ap (λ b. cond b (Some c) (commit_of q cs)) (test-other c.tx q (λ (e : c.tx ≡ q). other (sym e)))

pub txs-push : (c : Commit) (cs : List Commit) → txs_of (cs ++ c ∷ []) ≡ txs_of cs ++ c.tx ∷ []
txs-push c [] = refl
txs-push c (d ∷ ds) = ap (λ (ts : List ℕ). d.tx ∷ ts) (txs-push c ds)

pub tables-push : (t : _) (c : Commit) (cs : List Commit) → tables_after t (cs ++ c ∷ []) ≡ c.tables
tables-push t c [] = refl
tables-push t c (d ∷ ds) = tables-push d.tables c ds

pub distinct-push : (ts : List ℕ) (t : ℕ) → AreDistinct ts → (IsIn t ts → ⊥) → AreDistinct (ts ++ t ∷ [])
distinct-push [] t once new = (tt, tt)
distinct-push (u ∷ us) t once new = (not-push us once.0, distinct-push us t once.1 (λ is. new (inr is)))
  where
    not-push : (xs : List ℕ) → IsNot u xs → IsNot u (xs ++ t ∷ [])
    not-push [] never = ((λ (e : t ≡ u). new (inl e)), tt)
    not-push (x ∷ xs) never = (never.0, not-push xs never.1)

pub commit-push : (x c : Commit) (cs : List Commit) → IsCommit x (cs ++ c ∷ []) → IsCommit x cs ⊎ (x ≡ c)
commit-push x c [] is = ⊎_elim (λ (e : x ≡ c). inr e) (λ never. absurd never) is
commit-push x c (d ∷ ds) is = ⊎_elim (λ (e : x ≡ d). inl (inl e)) (λ later. ⊎_elim (λ was. inl (inr was)) (λ (e : x ≡ c). inr e) (commit-push x c ds later)) is

-- a link number has one path and the same options
abbrev pub OneLink : List Commit → Type 0
OneLink cs = (c d : Commit) (n : List ℕ) (x y : LinkRow) → IsCommit c cs → IsCommit d cs → numbered (links c.tables) n ≡ Some x → numbered (links d.tables) n ≡ Some y → x ≡ y

pub one-link-push : (cs : List Commit) (d : Commit) → OneLink cs → ((x : Commit) (n : List ℕ) (a b : LinkRow) → IsCommit x cs → numbered (links x.tables) n ≡ Some a → numbered (links d.tables) n ≡ Some b → a ≡ b) → OneLink (cs ++ d ∷ [])
one-link-push cs d old new x y n a b in_x in_y at_x at_y = ⊎_elim
    (λ old_x. ⊎_elim
    (λ old_y. old x y n a b old_x old_y at_x at_y)
    (λ (e : y ≡ d). new x n a b old_x at_x (ap (λ (z : Commit). numbered (links z.tables) n) (sym e) ∙ at_y))
    (commit-push y d cs in_y))
    (λ (e : x ≡ d). ⊎_elim
    (λ old_y. sym (new y n b a old_y at_y (ap (λ (z : Commit). numbered (links z.tables) n) (sym e) ∙ at_x)))
    (λ (e2 : y ≡ d). some_same a b (sym at_x ∙ ap (λ (z : Commit). numbered (links z.tables) n) (e ∙ sym e2) ∙ at_y))
    (commit-push y d cs in_y))
    (commit-push x d cs in_x)

pub has-push : (q x : ℕ) (xs : List ℕ) → has_number q (xs ++ x ∷ []) ≡ true → (has_number q xs ≡ true) ⊎ (q ≡ x)
has-push q x [] is = ⊎_elim (λ (e : x ≡ q). inr (sym e)) (λ (other : x ≢ q). absurd (no (ap (λ b. cond b true false) (sym (test-other x q other)) ∙ is))) (cases_eq x q)
  where
    no : false ≡ true → ⊥
    no e = cc
has-push q x (y ∷ ys) is = either (y == q) refl (λ e. has-push q x ys (sym (ap (λ c. cond c true (has_number q (ys ++ x ∷ []))) e) ∙ is))
  where
    either : (b : Bool) → (y == q) ≡ b → ((y == q) ≡ false → (has_number q ys ≡ true) ⊎ (q ≡ x)) → (has_number q (y ∷ ys) ≡ true) ⊎ (q ≡ x)
    either true e rest = inl (ap (λ c. cond c true (has_number q ys)) e)
    either false e rest = ⊎_elim (λ was. inl (ap (λ c. cond c true (has_number q ys)) e ∙ was)) (λ new. inr new) (rest e)
