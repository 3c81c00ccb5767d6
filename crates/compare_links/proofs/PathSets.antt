-- Paths in memory, one link after another.
use Rattle.std.proofs.Common.{◌≡◌, ℕ, ◌+◌, ◌<◌, Bool, true, false, not, ◌&&◌, ◌||◌, List, [], ◌∷◌, length, drop, get_or, refl, sym, ap, ◌∙◌}
use Rattle.dl_base.specs.declared.value.LinkRow.{LinkRow}
use Rattle.meaning_areas.specs.Branches.{given_on}
use Rattle.meaning_settling.specs.Keyed.{is_at}
use Rattle.compare_links.proofs.Moved.{Linked}
use Rattle.compare_every.proofs.Lists.{left}
use Rattle.compare_links.specs.Moving.{are_free, with_path, with_paths, without_paths}

module _ (items all : List LinkRow) (i : ℕ) (l : LinkRow) (same : items ≡ all) (within : i < length items) (is : l ≡ get_or items i l) (old new : Linked) where
  abbrev rest : List LinkRow
  rest = drop (i + 1) all

  split : drop i all ≡ l ∷ rest
  split = left items all i l same within is

  -- one that is given
  pub give-turn : (q : List ℕ) (end : Bool) → new q ≡ (old q && not (is_at q l.path)) → without_paths (drop i all) old q ≡ end → without_paths rest new q ≡ end
  give-turn q end puts so_far =
      ap (λ b. b && not (given_on rest q)) puts ∙ by (old q) (is_at q l.path) (given_on rest q) ∙ ap (λ (ls : List LinkRow). without_paths ls old q) (sym split) ∙ so_far
    where
      by : (o a g : Bool) → ((o && not a) && not g) ≡ (o && not (a || g))
      by true true g = refl
      by true false g = refl
      by false a g = refl

  -- one that is taken
  pub take-turn : (q : List ℕ) (end : Bool) → new q ≡ (is_at q l.path || old q) → with_paths (drop i all) old q ≡ end → with_paths rest new q ≡ end
  take-turn q end puts so_far =
      ap (λ b. given_on rest q || b) puts ∙ by (is_at q l.path) (given_on rest q) (old q) ∙ ap (λ (ls : List LinkRow). with_paths ls old q) (sym split) ∙ so_far
    where
      by : (a g o : Bool) → (g || (a || o)) ≡ ((a || g) || o)
      by true true o = refl
      by true false o = refl
      by false g o = refl

  pub free-turn : (end : Bool) → not (old l.path) ≡ true → ((q : List ℕ) → new q ≡ (is_at q l.path || old q)) → are_free old (drop i all) ≡ end → are_free new rest ≡ end
  free-turn end free puts so_far =
      ap (λ (paths : Linked). are_free paths rest) put ∙ sym (ap (λ b. b && are_free (with_path l.path old) rest) free) ∙ ap (λ (ls : List LinkRow). are_free old ls) (sym split) ∙ so_far
    where
      put : new ≡ with_path l.path old
      put = λ j q. puts q j

  pub free-not : (end : Bool) → not (old l.path) ≡ false → are_free old (drop i all) ≡ end → false ≡ end
  free-not end taken so_far = sym (ap (λ b. b && are_free (with_path l.path old) rest) taken) ∙ ap (λ (ls : List LinkRow). are_free old ls) (sym split) ∙ so_far

-- with no links left
pub given-all : (paths : Linked) (q : List ℕ) → without_paths [] paths q ≡ paths q
given-all paths q = by (paths q)
  where
    by : (b : Bool) → (b && not false) ≡ b
    by true = refl
    by false = refl
