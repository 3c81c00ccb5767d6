-- What is in the way, link by link.
use Rattle.std.proofs.Common.{◌≡◌, ℕ, ◌+◌, ◌<◌, ◌&&◌, ◌||◌, Bool, true, false, cond, not, List, [], ◌∷◌, length, get_or, drop, filter, Option, Some, is_none, refl, sym, ◌∙◌, ap}
use Rattle.std.specs.Cmp.{eq_by_cmp_equiv}
use Rattle.std.specs.Cmp.Lexicographic.{slice_cmp, nat_list_cmp_total}
use Rattle.std.specs.FinMap as maps
use Rattle.std.specs.List.{list_any}
use Rattle.std.specs.Ordering.{is_eq, nat_cmp}
use Rattle.dl_base.specs.declared.value.LinkRow.{LinkRow}
use Rattle.meaning_files.specs.Files.{Files}
use Rattle.meaning_merge.specs.Restoring.{in_the_way, is_lost, other_bytes}
use Rattle.meaning_settling.specs.Keyed.{is_at}
use Rattle.meaning_settling.specs.Settling.{Copies, link_key}
use Rattle.bk_losing.proofs.LostLaws.{next}

-- a path that is put among others
pub put-given : (recovers : Bool) → recovers ≡ true → (k path q : List ℕ) → k ≡ path → (old new : Bool) → new ≡ cond (is_eq (slice_cmp nat_cmp k q)) true old → new ≡ ((recovers && is_at q path) || old)
put-given false e k path q same old new puts = absurd cc
put-given true e k path q same old new puts =
    puts ∙ ap (λ b. cond b true old) ((eq_by_cmp_equiv nat_list_cmp_total).symm k q ∙ ap (λ (p : List ℕ). is_at q p) same) ∙ by (is_at q path)
  where
    by : (b : Bool) → cond b true old ≡ ((true && b) || old)
    by true = refl
    by false = refl

module _ (files : Files) (copies : Copies) (gives : List LinkRow) where
  abbrev pub is_in : LinkRow → Bool
  is_in t = t.options.recovery && other_bytes (maps.get files t.path) (maps.get copies (link_key t.link)) && not (list_any (λ g. g.options.recovery && is_at t.path g.path) gives)

  -- lost links are never in the way
  lost-out : (lost : LinkRow → Bool) → ((l : LinkRow) → l.options.recovery ≡ true → lost l ≡ false) → (ts : List LinkRow) → in_the_way files copies gives (filter (λ l. not (lost l)) ts) ≡ in_the_way files copies gives ts
  lost-out lost never [] = refl
  lost-out lost never (t ∷ ts) = by (lost t) refl (t.options.recovery) refl (lost-out lost never ts)
    where
      true_false : true ≡ false → ⊥
      true_false e = cc

      by : (b : Bool) → lost t ≡ b → (r : Bool) → t.options.recovery ≡ r → in_the_way files copies gives (filter (λ l. not (lost l)) ts) ≡ in_the_way files copies gives ts
          → in_the_way files copies gives (cond (not b) (t ∷ filter (λ l. not (lost l)) ts) (filter (λ l. not (lost l)) ts)) ≡ in_the_way files copies gives (t ∷ ts)
      by false is r at go = ap (λ (o : Option (List ℕ)). cond (is_in t) (Some t.path) o) go
      by true is true at go = absurd (true_false (sym is ∙ never t at))
      by true is false at go =
          go ∙ sym (ap (λ r. cond (r && other_bytes (maps.get files t.path) (maps.get copies (link_key t.link)) && not (list_any (λ g. g.options.recovery && is_at t.path g.path) gives)) (Some t.path) (in_the_way files copies gives ts)) at)

  -- a turn of the loop over links

  pub way-on : (items all : List LinkRow) (i : ℕ) (d : LinkRow) → items ≡ all → i < length items → d ≡ get_or items i d → is_in d ≡ true → (first : Option (List ℕ)) → in_the_way files copies gives (drop i all) ≡ first → Some d.path ≡ first
  way-on items all i d same within is here first so_far =
      sym (ap (λ b. cond b (Some d.path) (in_the_way files copies gives (drop (i + 1) all))) here)
      ∙ ap (λ (ts : List LinkRow). in_the_way files copies gives ts) (sym (next items all i d same within is)) ∙ so_far

  pub way-off : (items all : List LinkRow) (i : ℕ) (d : LinkRow) → items ≡ all → i < length items → d ≡ get_or items i d → is_in d ≡ false → (first : Option (List ℕ)) → in_the_way files copies gives (drop i all) ≡ first → in_the_way files copies gives (drop (i + 1) all) ≡ first
  way-off items all i d same within is there first so_far =
      sym (ap (λ b. cond b (Some d.path) (in_the_way files copies gives (drop (i + 1) all))) there)
      ∙ ap (λ (ts : List LinkRow). in_the_way files copies gives ts) (sym (next items all i d same within is)) ∙ so_far

  pub way-lost : (all : List LinkRow) (ts : List LinkRow) → in_the_way files copies gives (filter (λ l. not (is_lost files all l)) ts) ≡ in_the_way files copies gives ts
  way-lost all ts = lost-out (is_lost files all) (λ l recovers. ap (λ r. list_any (λ t. is_at (link_key t.link) (link_key l.link)) all && not r && is_none (maps.get files l.path)) recovers
      ∙ off (list_any (λ t. is_at (link_key t.link) (link_key l.link)) all) (is_none (maps.get files l.path))) ts
    where
      off : (a b : Bool) → (a && not true && b) ≡ false
      off true b = refl
      off false b = refl
