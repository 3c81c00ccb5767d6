-- The numbers of the links of a restore were drawn.
use Rattle.std.proofs.Common.{◌≡◌, inl, inr, ⊎_elim, ℕ, ◌/◌, ◌^◌, ◌≤◌, List, [], ◌∷◌, length, Some, refl, sym, subst}
use Rattle.std.proofs.lemmas.List.Elements.{All-from_recursion, recursion_from_All}
use Rattle.std.specs.List.{AllByRecursion}
use Rattle.dl_base.specs.declared.value.LinkRow.{LinkRow}
use Rattle.meaning_areas.specs.Commits.{Commit}
use Rattle.meaning_areas.specs.Stands.{AreDrawn, IsCommit, past}
use Rattle.meaning_merge.specs.Touching.{In}
use Rattle.meaning_tables.specs.Links.{links}
use Rattle.meaning_tables.specs.Tables.{Tables}
use Rattle.meaning_system.specs.Machine.{restore_moved, restore_to}
use Rattle.meaning_system.specs.State.{State, tables_of}
use Rattle.meaning_restore.proofs.Let.{IsLet, given, given-link, last-at, later-in, past-commit, taken, taken-link}

abbrev IsDrawn : ℕ → LinkRow → Type 0
IsDrawn opening l = l.link.tx / 2 ^ 32 ≤ opening

in-drawn : (opening : ℕ) (ls : List LinkRow) → AreDrawn opening ls → (l : LinkRow) → In l ls → IsDrawn opening l
in-drawn opening ls all l is = by ls (recursion_from_All (IsDrawn opening) ls all) is
  where
    by : (xs : List LinkRow) → AllByRecursion (IsDrawn opening) xs → In l xs → IsDrawn opening l
    by [] each is = absurd is
    by (x ∷ xs) each is = ⊎_elim (λ (e : l ≡ x). subst (IsDrawn opening) (sym e) each.0) (λ (later : In l xs). by xs each.1 later) is

drawn-in : (opening : ℕ) (ls : List LinkRow) → ((l : LinkRow) → In l ls → IsDrawn opening l) → AreDrawn opening ls
drawn-in opening ls of = All-from_recursion (IsDrawn opening) ls (by ls of)
  where
    by : (xs : List LinkRow) → ((l : LinkRow) → In l xs → IsDrawn opening l) → AllByRecursion (IsDrawn opening) xs
    by [] of = tt
    by (x ∷ xs) of = (of x (inl refl), by xs (λ l is. of l (inr is)))

module _ (first : ℕ) (s : State) (target : Tables) (has : IsLet first s target) where
  past-drawn : (n : ℕ) (ts : Tables) (l : LinkRow) → past [] s.commits n ≡ Some ts → In l (links ts) → IsDrawn s.rows_opening l
  past-drawn n ts l at is = ⊎_elim
      (λ (e : [] ≡ ts). absurd (subst (λ (us : Tables). In l (links us)) (sym e) is))
      (λ (c : (x : Commit) × IsCommit x s.commits × (x.tables ≡ ts)). in-drawn s.rows_opening (links c.0.tables) (has.drawn c.0 c.1) l (subst (λ (us : Tables). In l (links us)) (sym c.2) is))
      (past-commit [] s.commits n ts at)

  of-target : (l : LinkRow) → In l (links (restore_to s target)) → IsDrawn s.rows_opening l
  of-target l is = past-drawn has.number target l has.at (later-in first s target has l is).0

  pub later-drawn : AreDrawn s.rows_opening (links (restore_to s target))
  later-drawn = drawn-in s.rows_opening (links (restore_to s target)) of-target

  pub moved-drawn : AreDrawn s.rows_opening (restore_moved s (restore_to s target)).gives × AreDrawn s.rows_opening (restore_moved s (restore_to s target)).takes
  moved-drawn = (
    drawn-in s.rows_opening (given first s target has) (λ l is. past-drawn (length s.commits) (tables_of s) l (last-at first s target has) (given-link first s target has l is).0),
    drawn-in s.rows_opening (taken first s target has) (λ l is. of-target l (taken-link first s target has l is).0),
  )
