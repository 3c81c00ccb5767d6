-- TURNS OF LOOPS over the transactions of commits, and over what a test goes through.
use Rattle.std.proofs.Common.{◌≡◌, ℕ, zero, suc, ◌+◌, Bool, true, false, ◌&&◌, List, [], ◌∷◌, drop, Option, Some, refl, sym, ◌∙◌, ap, add-one}
use Rattle.std.specs.List.{list_all, slice_get}
use Rattle.std.specs.Option.{option_map, option_or}
use Rattle.compare_files.specs.Copies.{all_stand, open_stands}
use Rattle.compare_files.specs.Effects.{Entries, PutsBehind, entry, first_open, of_open}
use Rattle.compare_files.proofs.Putting.{or-or}
use Rattle.db_store.specs.Log.{commit_numbered}
use Rattle.meaning_areas.specs.Commits.{Commit}
use Rattle.meaning_areas.specs.Stands.{txs_of}
use Rattle.meaning_areas.proofs.Tables.{some_same}
use Rattle.meaning_settling.specs.Settling.{Moved}

-- the transaction of a commit, and those behind it

some-tx : (c : Commit) (tx : ℕ) (b : Bool) → ◌≡◌ {A = Option (ℕ × Bool)} (Some (c.tx, c.branch)) (Some (tx, b)) → c.tx ≡ tx
some-tx c tx b e = ap (λ (z : ℕ × Bool). z.0) (some_same (c.tx, c.branch) (tx, b) e)

txs-at : (cs : List Commit) (i : ℕ) (tx : ℕ) (b : Bool) → option_map {U = ℕ × Bool} (λ c. (c.tx, c.branch)) (slice_get cs i) ≡ Some (tx, b) → drop i (txs_of cs) ≡ tx ∷ drop (suc i) (txs_of cs)
txs-at [] i tx b e = absurd cc
txs-at (c ∷ cs) zero tx b e = ap (λ n. n ∷ txs_of cs) (some-tx c tx b e)
txs-at (c ∷ cs) (suc i) tx b e = txs-at cs i tx b e

numbered-next : (cs : List Commit) (i : ℕ) → commit_numbered cs (i + 1) ≡ slice_get cs i
numbered-next cs i = ap (commit_numbered cs) (add-one i)

pub tx-turn : (cs : List Commit) (i : ℕ) (r : Option (ℕ × Bool)) (tx : ℕ) (b : Bool) → r ≡ option_map {U = ℕ × Bool} (λ c. (c.tx, c.branch)) (commit_numbered cs (i + 1)) → r ≡ Some (tx, b) → drop i (txs_of cs) ≡ tx ∷ drop (i + 1) (txs_of cs)
tx-turn cs i r tx b is some =
    txs-at cs i tx b (ap (option_map {U = ℕ × Bool} (λ c. (c.tx, c.branch))) (sym (numbered-next cs i)) ∙ sym is ∙ some)
    ∙ ap (λ n. tx ∷ drop n (txs_of cs)) (sym (add-one i))

-- WHAT STANDS SO FAR, from what the first of the open transactions does

module _ {X : Type 0} (what : List ℕ → Moved → Option X) (open_at : ℕ → Option Moved) where
  -- what stands and what the transactions behind it do are what all do
  abbrev pub Comes : List ℕ → List ℕ → Entries X → Type 0
  Comes all rest es = (key : List ℕ) → option_or (entry es key) (first_open (what key) open_at rest) ≡ first_open (what key) open_at all

  pub comes-more : (all rest later : List ℕ) (t : ℕ) (old new : Entries X) → rest ≡ t ∷ later → Comes all rest old → PutsBehind old new (λ key. of_open (what key) (open_at t)) → Comes all later new
  comes-more all rest later t old new split so_far puts key =
      ap (λ o. option_or o (first_open (what key) open_at later)) (puts key)
      ∙ or-or (entry old key) (of_open (what key) (open_at t)) (first_open (what key) open_at later)
      ∙ ap (λ ts. option_or (entry old key) (first_open (what key) open_at ts)) (sym split)
      ∙ so_far key

-- all stand so far

module _ (test : List ℕ → Bool) (open_at : ℕ → Option Moved) where
  pub stands-more : (all rest later : List ℕ) (t : ℕ) → rest ≡ t ∷ later → open_stands test (open_at t) ≡ true → all_stand test open_at rest ≡ all_stand test open_at all → all_stand test open_at later ≡ all_stand test open_at all
  stands-more all rest later t split here so_far =
      ap (λ b. b && all_stand test open_at later) (sym here) ∙ ap (all_stand test open_at) (sym split) ∙ so_far

  pub stands-not : (all rest later : List ℕ) (t : ℕ) → rest ≡ t ∷ later → open_stands test (open_at t) ≡ false → all_stand test open_at rest ≡ all_stand test open_at all → false ≡ all_stand test open_at all
  stands-not all rest later t split here so_far =
      ap (λ b. b && all_stand test open_at later) (sym here) ∙ ap (all_stand test open_at) (sym split) ∙ so_far

-- one item more of a list, of which all so far pass a test

module _ {A : Type 0} where
  behind : (xs : List A) (i : ℕ) (x : A) → slice_get xs i ≡ Some x → drop i xs ≡ x ∷ drop (suc i) xs
  behind [] i x at = absurd cc
  behind (y ∷ ys) zero x at = ap (λ (z : A). z ∷ ys) (some_same y x at)
  behind (y ∷ ys) (suc i) x at = behind ys i x at

  pub drop-at : (xs : List A) (i : ℕ) (x : A) → slice_get xs i ≡ Some x → drop i xs ≡ x ∷ drop (i + 1) xs
  drop-at xs i x at = behind xs i x at ∙ ap (λ n. x ∷ drop n xs) (sym (add-one i))

module _ {A : Type 0} (test : A → Bool) where
  pub passes-more : (xs rest later : List A) (x : A) → rest ≡ x ∷ later → test x ≡ true → list_all test rest ≡ list_all test xs → list_all test later ≡ list_all test xs
  passes-more xs rest later x split here so_far = ap (λ b. b && list_all test later) (sym here) ∙ ap (list_all test) (sym split) ∙ so_far

  pub passes-not : (xs rest later : List A) (x : A) → rest ≡ x ∷ later → test x ≡ false → list_all test rest ≡ list_all test xs → false ≡ list_all test xs
  passes-not xs rest later x split here so_far = ap (λ b. b && list_all test later) (sym here) ∙ ap (list_all test) (sym split) ∙ so_far

  pub all-same : (other : A → Bool) → ((x : A) → test x ≡ other x) → (xs : List A) → list_all test xs ≡ list_all other xs
  all-same other same [] = refl
  all-same other same (x ∷ xs) = λ i. same x i && all-same other same xs i
