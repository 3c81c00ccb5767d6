-- What a restore gives is committed.
use Rattle.std.proofs.Common.{◌≡◌, inl, inr, ℕ, List, [], ◌∷◌, ◌||◌, Bool, true, false, Some, refl}
use Rattle.std.specs.List.{list_any}
use Rattle.dl_base.specs.declared.value.LinkRow.{LinkRow}
use Rattle.meaning_areas.specs.Same.{same_link}
use Rattle.meaning_areas.proofs.Equal.{row-link-decides}
use Rattle.meaning_merge.specs.Touching.{In}
use Rattle.meaning_merge.proofs.MovedLaws.{in-on}
use Rattle.meaning_settling.specs.Settling.{on}
use Rattle.meaning_settling.proofs.KeyedLaws.{false_true}
use Rattle.meaning_tables.specs.Links.{links}
use Rattle.meaning_tables.specs.Tables.{Tables}
use Rattle.meaning_system.specs.Machine.{restore_moved, restore_to}
use Rattle.meaning_system.specs.State.{State, tables_of}
use Rattle.meaning_restore.proofs.Let.{IsLet, given, given-link, last-paths}

same-in : (g : LinkRow) (ls : List LinkRow) → list_any (same_link g) ls ≡ true → In g ls
same-in g [] e = absurd (false_true e)
same-in g (x ∷ xs) e = by (same_link g x) refl e (λ h. same-in g xs h)
  where
    by : (b : Bool) → same_link g x ≡ b → (b || list_any (same_link g) xs) ≡ true → (list_any (same_link g) xs ≡ true → In g xs) → In g (x ∷ xs)
    by true same h rest = inl ((row-link-decides g x).0 same)
    by false same h rest = inr (rest h)

pub given-committed : (first : ℕ) (s : State) (target : Tables) → IsLet first s target → (g : LinkRow) → list_any (same_link g) (restore_moved s (restore_to s target)).gives ≡ true → on (links (tables_of s)) g.path ≡ Some g
given-committed first s target has g e = in-on (links (tables_of s)) g (last-paths first s target has) (given-link first s target has g (same-in g (given first s target has) e)).0
