-- EACH BACKUP HAS THE TABLES AFTER ITS COMMIT exactly where each one by its place has.
use Rattle.std.proofs.Common.{◌≡◌, ◌≢◌, ◌⊎◌, ⊎_elim, inl, inr, ℕ, zero, suc, ◌+◌, ◌<◌, ◌≤◌, Bool, true, false, List, [], ◌∷◌, length, Option, Some, None, get_or, refl, sym, ◌∙◌, ap, subst, arith, add-one}
use Rattle.std.proofs.lemmas.Bool.{cases_eq}
use Rattle.std.proofs.lemmas.Option.{get_or_from_slice_get, slice_get-get_or}
use Rattle.std.specs.Bool.{Decides}
use Rattle.std.specs.List.{All, slice_get}
use Rattle.dl_base.specs.declared.area.Area.TheVariants as areas
use Rattle.bk_backup.specs.Saved.{backup_numbered}
use Rattle.meaning_areas.specs.Areas.{ComparesAt}
use Rattle.meaning_areas.specs.Commits.{Commit, Commits}
use Rattle.meaning_areas.specs.Copies.{Backup}
use Rattle.meaning_areas.specs.Lists.{Folds}
use Rattle.meaning_areas.specs.Stands.{past}
use Rattle.meaning_tables.specs.Tables.{Tables}

below-next : (k n : ℕ) → k < n + 1 → (k < n) ⊎ (k ≡ n)
below-next k n lt = ⊎_elim (λ (e : k ≡ n). inr e) (λ (other : k ≢ n). inl (omega (arith, lt, other))) (cases_eq k n)

pub past-end : {A : Type 0} (xs : List A) (i : ℕ) → slice_get xs i ≡ None → i < length xs → ⊥
past-end [] i none lt = omega (arith, lt)
past-end (x ∷ xs) zero none lt = cc
past-end (x ∷ xs) (suc i) none lt = past-end xs i none (omega (arith, lt))

numbered-next : (bs : List Backup) (n : ℕ) → backup_numbered bs (n + 1) ≡ slice_get bs n
numbered-next bs n = ap (backup_numbered bs) (add-one n)

module _ (P : Backup → Type 0) (bs : List Backup) where
  -- all before a place
  abbrev pub SoFar : ℕ → Type 0
  SoFar n = (k : ℕ) (b : Backup) → k < n → slice_get bs k ≡ Some b → P b

  pub so-far-none : SoFar 0
  so-far-none k b lt at = absurd (omega (arith, lt))

  pub so-far-more : (n : ℕ) → SoFar n → ((b : Backup) → backup_numbered bs (n + 1) ≡ Some b → Decides true (P b)) → SoFar (n + 1)
  so-far-more n so_far here k b lt at = ⊎_elim
      (λ (below : k < n). so_far k b below at)
      (λ (is : k ≡ n). (here b (numbered-next bs n ∙ ap (slice_get bs) (sym is) ∙ at)).0 refl)
      (below-next k n lt)

  pub all-so-far : (n : ℕ) → length bs ≤ n → SoFar n → Decides true (All P bs)
  all-so-far n le so_far = ((λ e k d lt. so_far k (get_or bs k d) (omega (arith, lt, le)) (slice_get-get_or bs k d lt)), (λ all. refl))

  pub one-not : (n : ℕ) → n < length bs → ((b : Backup) → backup_numbered bs (n + 1) ≡ Some b → Decides false (P b)) → Decides false (All P bs)
  one-not n lt here = ((λ (e : false ≡ true). absurd (never e)), (λ all. by all (slice_get bs n) refl))
    where
      never : false ≡ true → ⊥
      never e = cc

      by : All P bs → (o : Option Backup) → slice_get bs n ≡ o → false ≡ true
      by all None at = absurd (past-end bs n at lt)
      by all (Some b) at = (here b (numbered-next bs n ∙ at)).1 (subst P (get_or_from_slice_get bs n b b at) (all n b lt))

-- the comparison, from that of the commits and the backups that are held
pub past-decides : (rows : Commits) (bs : List Backup) (r : Bool) → Decides r (All (λ b. past [] rows.commits b.commit ≡ Some b.tables) bs)
    → (f : Folds) → f.rows ≡ rows → f.backups ≡ bs → Decides r (ComparesAt f areas.Backups)
past-decides rows bs r all f of_rows of_backups =
    let P : Commits → Type 0 = λ x. Decides r (All (λ b. past [] x.commits b.commit ≡ Some b.tables) bs) in
    let Q : List Backup → Type 0 = λ x. Decides r (All (λ b. past [] f.rows.commits b.commit ≡ Some b.tables) x) in
    subst Q (sym of_backups) (subst P (sym of_rows) all)

-- behind a commit that there is not there are no others
pub past-none : (t : Tables) (cs : List Commit) (n m : ℕ) → past t cs n ≡ None → n ≤ m → past t cs m ≡ None
past-none t cs zero m none le = absurd cc
past-none t cs (suc n) zero none le = absurd (omega (arith, le))
past-none t [] (suc n) (suc m) none le = refl
past-none t (c ∷ cs) (suc n) (suc m) none le = past-none c.tables cs n m none (omega (arith, le))
