-- What is done at each path, link by link.
use Rattle.std.proofs.Common.{◌≡◌, ℕ, ◌+◌, ◌<◌, Bool, true, false, cond, List, [], ◌∷◌, length, get_or, drop, Option, Some, None, refl, sym, ap, ◌∙◌}
use Rattle.std.proofs.lemmas.List.{drop_more}
use Rattle.std.specs.Option.{option_or}
use Rattle.dl_base.specs.declared.value.LinkRow.{LinkRow}
use Rattle.fm_effects.proofs.Keys.{same-key}
use Rattle.fm_effects.specs.Sites.{given_of, site_or, take_in, taken_of, with_give, with_take}
use Rattle.fm_effects.specs.declared.sites.Site.{Site}
use Rattle.fm_effects.specs.declared.sites.Take.{Take}
use Rattle.meaning_settling.specs.Keyed.{is_at}
use Rattle.meaning_settling.specs.Settling.{on}

-- one more link at a path

module _ (sites : List ℕ → Option Site) (l : LinkRow) (s : Site) (q : List ℕ) where
  pub give-one : s ≡ with_give l (site_or (sites l.path)) → cond (is_at q l.path) (Some s) (sites q) ≡ given_of (cond (is_at q l.path) (Some l) None) (sites q)
  give-one is = by (is_at q l.path) refl
    where
      by : (b : Bool) → is_at q l.path ≡ b → cond b (Some s) (sites q) ≡ given_of (cond b (Some l) None) (sites q)
      by true e = ap (λ (x : Site). Some x) is ∙ ap (λ (p : List ℕ). Some (with_give l (site_or (sites p)))) (sym (same-key q l.path e))
      by false e = refl

  pub take-one : s ≡ with_take l (site_or (sites l.path)) → cond (is_at q l.path) (Some s) (sites q) ≡ taken_of (cond (is_at q l.path) (Some l) None) (sites q)
  take-one is = by (is_at q l.path) refl
    where
      by : (b : Bool) → is_at q l.path ≡ b → cond b (Some s) (sites q) ≡ taken_of (cond b (Some l) None) (sites q)
      by true e = ap (λ (x : Site). Some x) is ∙ ap (λ (p : List ℕ). Some (with_take l (site_or (sites p)))) (sym (same-key q l.path e))
      by false e = refl

-- of two, the first counts

give-more : (o : Option Site) (l : LinkRow) (rest : Option LinkRow) (b : Bool) → given_of rest (given_of (cond b (Some l) None) o) ≡ given_of (cond b (Some l) rest) o
give-more o l rest false = refl
give-more o l None true = refl
give-more o l (Some h) true = refl

take-twice : (t : Option Take) (x y : Take) → option_or (option_or t (Some x)) (Some y) ≡ option_or t (Some x)
take-twice None x y = refl
take-twice (Some t) x y = refl

take-more : (o : Option Site) (l : LinkRow) (rest : Option LinkRow) (b : Bool) → taken_of rest (taken_of (cond b (Some l) None) o) ≡ taken_of (cond b (Some l) rest) o
take-more o l rest false = refl
take-more o l None true = refl
take-more o l (Some h) true = ap (λ (t : Option Take). Some (record { give = (site_or o).give; take = t })) (take-twice (site_or o).take (take_in l) (take_in h))

-- a turn of the loop over links
module _ (items all : List LinkRow) (i : ℕ) (d : LinkRow) (same : items ≡ all) (within : i < length items) (is : d ≡ get_or items i d) (q : List ℕ) (before after first : Option Site) where
  left : on (drop i all) q ≡ cond (is_at q d.path) (Some d) (on (drop (i + 1) all) q)
  left =
      ap (λ (l : List LinkRow). on (drop i l) q) (sym same) ∙ ap (λ (l : List LinkRow). on l q) (drop_more items i d within)
      ∙ ap (λ (x : LinkRow). on (x ∷ drop (i + 1) items) q) (sym is)
      ∙ ap (λ (l : List LinkRow). on (d ∷ drop (i + 1) l) q) same

  pub give-turn : after ≡ given_of (on (d ∷ []) q) before → given_of (on (drop i all) q) before ≡ first → given_of (on (drop (i + 1) all) q) after ≡ first
  give-turn step so_far =
      ap (λ (o : Option Site). given_of (on (drop (i + 1) all) q) o) step ∙ give-more before d (on (drop (i + 1) all) q) (is_at q d.path)
      ∙ ap (λ (o : Option LinkRow). given_of o before) (sym left) ∙ so_far

  pub take-turn : after ≡ taken_of (on (d ∷ []) q) before → taken_of (on (drop i all) q) before ≡ first → taken_of (on (drop (i + 1) all) q) after ≡ first
  take-turn step so_far =
      ap (λ (o : Option Site). taken_of (on (drop (i + 1) all) q) o) step ∙ take-more before d (on (drop (i + 1) all) q) (is_at q d.path)
      ∙ ap (λ (o : Option LinkRow). taken_of o before) (sym left) ∙ so_far
