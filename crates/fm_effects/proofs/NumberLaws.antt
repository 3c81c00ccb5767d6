-- The first link of each number.
use Rattle.std.proofs.Common.{◌≡◌, ℕ, ◌+◌, ◌<◌, Bool, true, false, cond, List, [], ◌∷◌, length, get_or, drop, Option, Some, None, is_some, refl, sym, ap, ◌∙◌}
use Rattle.std.proofs.lemmas.List.{drop_more}
use Rattle.std.specs.Option.{option_or}
use Rattle.dl_base.specs.declared.value.LinkRow.{LinkRow}
use Rattle.fm_effects.proofs.Keys.{same-key}
use Rattle.meaning_settling.specs.Keyed.{is_at}
use Rattle.meaning_settling.specs.Settling.{link_key, numbered}

pub not-there : {A : Type 0} (o : Option A) → is_some o ≡ false → o ≡ None
not-there None e = refl
not-there (Some x) e = cc e

-- one more link
module _ (links : List ℕ → Option LinkRow) (l : LinkRow) (q : List ℕ) where
  pub number-new : links (link_key l.link) ≡ None → cond (is_at q (link_key l.link)) (Some l) (links q) ≡ option_or (links q) (numbered (l ∷ []) q)
  number-new none = by (is_at q (link_key l.link)) refl
    where
      by_found : (o : Option LinkRow) → o ≡ option_or o None
      by_found None = refl
      by_found (Some x) = refl

      by : (b : Bool) → is_at q (link_key l.link) ≡ b → cond b (Some l) (links q) ≡ option_or (links q) (cond b (Some l) None)
      by true e = sym (ap (λ (o : Option LinkRow). option_or o (Some l)) (ap links (same-key q (link_key l.link) e) ∙ none))
      by false e = by_found (links q)

  pub number-there : is_some (links (link_key l.link)) ≡ true → links q ≡ option_or (links q) (numbered (l ∷ []) q)
  number-there some = by (is_at q (link_key l.link)) refl (links q) refl
    where
      by : (b : Bool) → is_at q (link_key l.link) ≡ b → (o : Option LinkRow) → links q ≡ o → o ≡ option_or o (cond b (Some l) None)
      by b e (Some x) is = refl
      by false e None is = refl
      by true e None is = absurd (none_some (sym (ap is_some (sym (ap links (same-key q (link_key l.link) e)) ∙ is)) ∙ some))
        where
          none_some : false ≡ true → ⊥
          none_some x = cc

-- a turn of the loop over links
module _ (items all : List LinkRow) (i : ℕ) (d : LinkRow) (same : items ≡ all) (within : i < length items) (is : d ≡ get_or items i d) (q : List ℕ) (before after first : Option LinkRow) where
  left : numbered (drop i all) q ≡ cond (is_at q (link_key d.link)) (Some d) (numbered (drop (i + 1) all) q)
  left =
      ap (λ (l : List LinkRow). numbered (drop i l) q) (sym same) ∙ ap (λ (l : List LinkRow). numbered l q) (drop_more items i d within)
      ∙ ap (λ (x : LinkRow). numbered (x ∷ drop (i + 1) items) q) (sym is)
      ∙ ap (λ (l : List LinkRow). numbered (d ∷ drop (i + 1) l) q) same

  more : (b : Bool) (o rest : Option LinkRow) → option_or (option_or o (cond b (Some d) None)) rest ≡ option_or o (cond b (Some d) rest)
  more b (Some x) rest = refl
  more true None rest = refl
  more false None rest = refl

  pub number-turn : after ≡ option_or before (numbered (d ∷ []) q) → option_or before (numbered (drop i all) q) ≡ first → option_or after (numbered (drop (i + 1) all) q) ≡ first
  number-turn step so_far =
      ap (λ (o : Option LinkRow). option_or o (numbered (drop (i + 1) all) q)) step ∙ more (is_at q (link_key d.link)) before (numbered (drop (i + 1) all) q)
      ∙ ap (λ (o : Option LinkRow). option_or before o) (sym left) ∙ so_far
