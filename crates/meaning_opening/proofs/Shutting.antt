-- Branches that are not in doubt any more, and what is put into the table of branches.
use Rattle.std.proofs.Common.{◌≡◌, ◌≢◌, ⊎_elim, ℕ, false, cond, Some, None, sym, ◌∙◌, ap}
use Rattle.std.proofs.lemmas.Bool.{cases_eq}
use Rattle.std.specs.FinMap as maps
use Rattle.std.specs.Ordering.{nat_cmp}
use Rattle.meaning_areas.specs.Branches.{Branch}
use Rattle.meaning_areas.specs.Lists.{Folds}
use Rattle.meaning_areas.specs.Stands.{is_open, open_branch, open_in}
use Rattle.meaning_opening.proofs.Plain.{get-here, get-there, none_some}

-- not in doubt, or not there
abbrev pub IsShut : Folds → ℕ → Type 0
IsShut f q = open_in f.links q ≡ None

module _ (t : maps.FinMap nat_cmp Branch) (tx : ℕ) (b : Branch) (closed : is_open b.phase ≡ false) where
  pub shut-here : open_branch (maps.get (maps.insert t tx b) tx) ≡ None
  shut-here = ap open_branch (get-here t tx b) ∙ ap (λ x. cond x (Some b.moved) None) closed

  -- others stay as they are
  pub shut-put : (q : ℕ) → open_branch (maps.get t q) ≡ None → open_branch (maps.get (maps.insert t tx b) q) ≡ None
  shut-put q was = ⊎_elim
      (λ (e : q ≡ tx). ap (λ (x : ℕ). open_branch (maps.get (maps.insert t tx b) x)) e ∙ shut-here)
      (λ (other : q ≢ tx). ap open_branch (get-there t tx b q other) ∙ was)
      (cases_eq q tx)

-- what is not there is not put there where another is changed
pub none-put : (t : maps.FinMap nat_cmp Branch) (tx : ℕ) (a b : Branch) → maps.get t tx ≡ Some a → (q : ℕ) → maps.get t q ≡ None → maps.get (maps.insert t tx b) q ≡ None
none-put t tx a b at q none = get-there t tx b q (λ (e : q ≡ tx). none_some a (sym none ∙ ap (maps.get t) e ∙ at)) ∙ none
