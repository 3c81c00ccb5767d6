-- Lists gone through from the first item on.
use Rattle.std.proofs.Common.{◌≡◌, inl, inr, ⊎_elim, ℕ, zero, suc, ◌+◌, ◌<◌, ◌≤◌, List, [], ◌∷◌, length, true, cond, Some, is_some, sym, ◌∙◌, ap, subst, arith}
use Rattle.std.proofs.lemmas.Bool.Decides.{eqb_tells}
use Rattle.std.specs.FinMap as maps
use Rattle.std.specs.List.{slice_get}
use Rattle.fm_branch.specs.Table.{HaveBranches, Table}
use Rattle.meaning_areas.specs.Branches.{Branch}
use Rattle.meaning_areas.specs.Commits.{Commit, has_number}
use Rattle.meaning_areas.specs.Stands.{IsCommit}
use Rattle.compare_every.proofs.Deciding.{false_true, some_same}
use Rattle.compare_every.proofs.Lists.{none_some}
use Rattle.compare_links.specs.Fitting.{EachBranch, EachCommit}
use Rattle.compare_links.specs.Walking.{HoldsBelow, IfThere}

module _ {A : Type 0} (P : A → Type 0) (xs : List A) where
  pub below-none : HoldsBelow P xs 0
  below-none k x lt at = absurd (omega (arith, lt))

  pub below-more : (i : ℕ) (x : A) → slice_get xs i ≡ Some x → P x → HoldsBelow P xs i → HoldsBelow P xs (i + 1)
  below-more i x at p so_far k y lt at_k = ⊎_elim
      (λ here. subst P (some_same x y (sym at ∙ ap (λ (n : ℕ). slice_get xs n) (sym here.1) ∙ at_k)) p)
      (λ there. so_far k y (closer there.1) at_k)
      (eqb_tells k i)
    where
      closer : (k ≡ i → ⊥) → k < i
      closer other = omega (arith, lt, other)

-- commits

pub commit-at : (c : Commit) (cs : List Commit) (i : ℕ) → slice_get cs i ≡ Some c → IsCommit c cs
commit-at c [] i at = absurd (none_some c at)
commit-at c (d ∷ ds) zero at = inl (sym (some_same d c at))
commit-at c (d ∷ ds) (suc i) at = inr (commit-at c ds i at)

pub at-commit : (c : Commit) (cs : List Commit) → IsCommit c cs → (i : ℕ) × (i < length cs) × (slice_get cs i ≡ Some c)
at-commit c [] is = absurd is
at-commit c (d ∷ ds) is = ⊎_elim (λ (here : c ≡ d). here_at here) (λ (later : IsCommit c ds). next (at-commit c ds later)) is
  where
    here_at : c ≡ d → (i : ℕ) × (i < length (d ∷ ds)) × (slice_get (d ∷ ds) i ≡ Some c)
    here_at here = (0, omega arith, ap (λ (x : Commit). Some x) (sym here))

    next : (i : ℕ) × (i < length ds) × (slice_get ds i ≡ Some c) → (i : ℕ) × (i < length (d ∷ ds)) × (slice_get (d ∷ ds) i ≡ Some c)
    next found = (suc found.0, more found.0 found.1, found.2)
      where
        more : (i : ℕ) → i < length ds → suc i < suc (length ds)
        more i lt = omega (arith, lt)

pub each-below : (P : Commit → Type 0) (cs : List Commit) (n : ℕ) → length cs ≤ n → HoldsBelow P cs n → EachCommit P cs
each-below P cs n all below c is = of (at-commit c cs is)
  where
    of : (i : ℕ) × (i < length cs) × (slice_get cs i ≡ Some c) → P c
    of found = below found.0 c (reach found.0 found.1) found.2
      where
        reach : (i : ℕ) → i < length cs → i < n
        reach i lt = omega (arith, lt, all)

-- numbers

pub number-at : (tx : ℕ) (ts : List ℕ) → has_number tx ts ≡ true → (i : ℕ) × (i < length ts) × (slice_get ts i ≡ Some tx)
number-at tx [] e = absurd (false_true e)
number-at tx (t ∷ ts) e = ⊎_elim (λ here. first here.1) (λ there. next (number-at tx ts (sym (ap (λ b. cond b true (has_number tx ts)) there.0) ∙ e))) (eqb_tells t tx)
  where
    first : t ≡ tx → (i : ℕ) × (i < length (t ∷ ts)) × (slice_get (t ∷ ts) i ≡ Some tx)
    first same = (0, omega arith, ap (λ (x : ℕ). Some x) same)

    next : (i : ℕ) × (i < length ts) × (slice_get ts i ≡ Some tx) → (i : ℕ) × (i < length (t ∷ ts)) × (slice_get (t ∷ ts) i ≡ Some tx)
    next found = (suc found.0, more found.0 found.1, found.2)
      where
        more : (i : ℕ) → i < length ts → suc i < suc (length ts)
        more i lt = omega (arith, lt)

-- BRANCHES, by the numbers of all
pub each-branch : (P : ℕ → Branch → Type 0) (table : Table) (ts : List ℕ) (n : ℕ) → length ts ≤ n → HaveBranches ts table → HoldsBelow (λ tx. IfThere (P tx) (maps.get table tx)) ts n → EachBranch P table
each-branch P table ts n all named below tx b at = by (number-at tx ts (named tx ∙ ap is_some at))
  where
    by : (i : ℕ) × (i < length ts) × (slice_get ts i ≡ Some tx) → P tx b
    by found = below found.0 tx (reach found.0 found.1) found.2 b at
      where
        reach : (i : ℕ) → i < length ts → i < n
        reach i lt = omega (arith, lt, all)
