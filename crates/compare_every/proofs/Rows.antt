-- Links that are put by their numbers, one after the other.
use Rattle.std.proofs.Common.{◌≡◌, ℕ, ◌+◌, ◌<◌, Bool, true, false, cond, List, ◌∷◌, length, drop, get_or, Option, Some, None, refl, sym, ap, ◌∙◌}
use Rattle.dl_base.specs.declared.value.LinkRow.{LinkRow}
use Rattle.meaning_settling.proofs.KeyedLaws.{is_at-same}
use Rattle.meaning_settling.specs.Keyed.{is_at}
use Rattle.meaning_settling.specs.Settling.{link_key, numbered}
use Rattle.compare_every.proofs.Lists.{left}
use Rattle.compare_every.specs.Every.{first_row}

-- the links that are known, by their numbers
abbrev pub Found : Type 0
Found = List ℕ → Option LinkRow

pub kept-row : (rows : Found) (k n : List ℕ) (x l : LinkRow) → rows k ≡ Some x → rows n ≡ cond (is_at n k) (first_row (rows k) (Some l)) (rows n)
kept-row rows k n x l is = by (is_at n k) refl
  where
    by : (b : Bool) → is_at n k ≡ b → rows n ≡ cond b (first_row (rows k) (Some l)) (rows n)
    by true here = ap rows (is_at-same n k here) ∙ is ∙ sym (ap (λ (o : Option LinkRow). first_row o (Some l)) is)
    by false other = refl

-- a link that is put before the others
row-turn : (rows : Found) (l : LinkRow) (rest : List LinkRow) (n : List ℕ) (o : Option LinkRow) → o ≡ cond (is_at n (link_key l.link)) (first_row (rows (link_key l.link)) (Some l)) (rows n) → first_row o (numbered rest n) ≡ first_row (rows n) (numbered (l ∷ rest) n)
row-turn rows l rest n o is = ap (λ (p : Option LinkRow). first_row p (numbered rest n)) is ∙ by (is_at n (link_key l.link)) refl
  where
    alike : (p : Option LinkRow) → first_row (first_row p (Some l)) (numbered rest n) ≡ first_row p (Some l)
    alike None = refl
    alike (Some x) = refl

    by : (b : Bool) → is_at n (link_key l.link) ≡ b → first_row (cond b (first_row (rows (link_key l.link)) (Some l)) (rows n)) (numbered rest n) ≡ first_row (rows n) (cond b (Some l) (numbered rest n))
    by true here = alike (rows (link_key l.link)) ∙ ap (λ (k : List ℕ). first_row (rows k) (Some l)) (sym (is_at-same n (link_key l.link) here))
    by false other = refl

pub rows-turn : (items all : List LinkRow) (i : ℕ) (l : LinkRow) → items ≡ all → i < length items → l ≡ get_or items i l → (rows later : Found) (n : List ℕ) (end : Option LinkRow)
    → later n ≡ cond (is_at n (link_key l.link)) (first_row (rows (link_key l.link)) (Some l)) (rows n) → first_row (rows n) (numbered (drop i all) n) ≡ end → first_row (later n) (numbered (drop (i + 1) all) n) ≡ end
rows-turn items all i l same within is rows later n end puts so_far =
    row-turn rows l (drop (i + 1) all) n (later n) puts
    ∙ ap (λ (ls : List LinkRow). first_row (rows n) (numbered ls n)) (sym (left items all i l same within is)) ∙ so_far
