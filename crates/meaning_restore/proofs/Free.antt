-- The path of what a restore takes is free, or given.
use Rattle.std.proofs.Common.{◌≡◌, inl, inr, ⊎_elim, ℕ, List, [], ◌∷◌, Bool, true, false, Option, Some, None, refl, sym, ◌∙◌, ap, subst}
use Rattle.std.specs.List.{list_all}
use Rattle.dl_base.specs.declared.value.LinkRow.{LinkRow}
use Rattle.meaning_areas.specs.Branches.{given_on, is_free}
use Rattle.meaning_merge.specs.Touching.{In, is_in}
use Rattle.meaning_merge.proofs.MovedLaws.{has-number, in-lacking, in-number, on-in}
use Rattle.meaning_merge.proofs.Numbers.{number-same, two}
use Rattle.meaning_merge.proofs.Paths.{one-same}
use Rattle.meaning_settling.specs.Keyed.{is_at}
use Rattle.meaning_settling.specs.Settling.{on}
use Rattle.meaning_settling.proofs.KeyedLaws.{either, false_true, is_at-self, or-left, or-right}
use Rattle.meaning_tables.specs.Links.{links}
use Rattle.meaning_tables.specs.Tables.{Tables}
use Rattle.meaning_system.specs.Machine.{restore_moved, restore_to}
use Rattle.meaning_system.specs.State.{State, tables_of}
use Rattle.meaning_restore.proofs.Let.{IsLet, given, last-at, later-one, later-paths, taken, taken-link}

given-there : (gs : List LinkRow) (g : LinkRow) (p : List ℕ) → In g gs → g.path ≡ p → given_on gs p ≡ true
given-there [] g p is e = absurd is
given-there (x ∷ xs) g p is e = ⊎_elim
    (λ (here : g ≡ x). or-left (is_at p x.path) (given_on xs p) (ap (λ (y : LinkRow). is_at p y.path) (sym here) ∙ ap (λ q. is_at p q) e ∙ is_at-self p))
    (λ (later : In g xs). or-right (is_at p x.path) (given_on xs p) (given-there xs g p later e)) is

each-free : (p : LinkRow → Bool) (ls : List LinkRow) → ((x : LinkRow) → In x ls → p x ≡ true) → list_all p ls ≡ true
each-free p [] of = refl
each-free p (x ∷ xs) of = two (p x) (list_all p xs) (of x (inl refl)) (each-free p xs (λ y is. of y (inr is)))

module _ (first : ℕ) (s : State) (target : Tables) (has : IsLet first s target) where
  abbrev gone : List LinkRow
  gone = given first s target has

  free-one : (x : LinkRow) → In x (taken first s target has) → is_free (on (links (tables_of s)) x.path) (given_on gone x.path) ≡ true
  free-one x there = by (on (links (tables_of s)) x.path) refl
    where
      new : In x (links (restore_to s target)) × (is_in (links (tables_of s)) x ≡ false)
      new = taken-link first s target has x there

      -- a committed link that stays is not on the path
      not-there : (h : LinkRow) → In h (links (tables_of s)) → h.path ≡ x.path → is_in (links (restore_to s target)) h ≡ true → ⊥
      not-there h old path e =
          let y = has-number (links (restore_to s target)) h e in
          let same : h ≡ y.0 = later-one first s target has _ (tables_of s) h y.0 (last-at first s target has) old y.1 (number-same h.link y.0.link y.2) in
          let stays : In h (links (restore_to s target)) = subst (λ (z : LinkRow). In z (links (restore_to s target))) (sym same) y.1 in
          let is : x ≡ h = one-same (links (restore_to s target)) x h (later-paths first s target has) new.0 stays (ap (λ q. is_at q x.path) path ∙ is_at-self x.path) in
          false_true (sym new.1 ∙ ap (is_in (links (tables_of s))) is ∙ in-number (links (tables_of s)) h old)

      by : (o : Option LinkRow) → on (links (tables_of s)) x.path ≡ o → is_free o (given_on gone x.path) ≡ true
      by None found = refl
      by (Some h) found =
          let of = on-in (links (tables_of s)) x.path h found in
          ⊎_elim
          (λ (e : is_in (links (restore_to s target)) h ≡ true). absurd (not-there h of.0 of.1 e))
          (λ (e : is_in (links (restore_to s target)) h ≡ false). given-there gone h x.path (in-lacking (links (tables_of s)) (links (restore_to s target)) h of.0 e) of.1)
          (either (is_in (links (restore_to s target)) h))

  pub all-free : list_all (λ l. is_free (on (links (tables_of s)) l.path) (given_on (restore_moved s (restore_to s target)).gives l.path)) (restore_moved s (restore_to s target)).takes ≡ true
  all-free = each-free (λ l. is_free (on (links (tables_of s)) l.path) (given_on gone l.path)) (taken first s target has) (λ x there. free-one x there)
