-- The next word of some bytes, by how many spaces there are, and then how many bytes that are none.
use Rattle.std.proofs.Common.{◌≡◌, ℕ, suc, ◌+◌, ◌-◌, ◌<◌, ◌≤◌, ◌==◌, Bool, true, false, not, cond, List, [], ◌∷◌, length, filter, get_or, take, drop, refl, sym, ap, ◌∙◌, arith, add-one, one-add, drop-cons, slice_range}
use Rattle.std.specs.List.{prefix_len, slice_split, All}
use Rattle.std.proofs.lemmas.Bool.Decides.{nat_tests}
use Rattle.std.proofs.lemmas.List.{drop_all, drop-drop, take_all}
use Rattle.std.proofs.lemmas.List.Folds.{length-prefix_len}
use Rattle.std.proofs.lemmas.List.Splits.{slice_split_first, slice_split_none}
use Rattle.std.proofs.lemmas.List.Sums.{prefix_len-le-length, prefix_len_passes, prefix_len_stops}
use Rattle.fs_command.specs.Words.{Word, words, placed}

abbrev pub is_space : ℕ → Bool
is_space b = b == 32

abbrev pub no_space : ℕ → Bool
no_space b = not (b == 32)

-- the word of some bytes at a place
abbrev pub at_place : ℕ → List ℕ → Word
at_place at bytes = record { place = at; bytes = bytes }

abbrev is_word : Word → Bool
is_word w = not (length w.bytes == 0)

abbrev kept : ℕ → List (List ℕ) → List Word
kept at parts = filter is_word (placed at parts)

not_true : (b : Bool) → not b ≡ false → b ≡ true
not_true true e = refl
not_true false e = absurd cc

not_false : (b : Bool) → not b ≡ true → b ≡ false
not_false true e = absurd cc
not_false false e = refl

pub words-space : (at b : ℕ) (bs : List ℕ) → is_space b ≡ true → words at (b ∷ bs) ≡ words (at + 1) bs
words-space at b bs e = rw e (let n : at + 0 + 1 ≡ at + 1 = omega arith in ap (λ (k : ℕ). kept k (slice_split is_space bs)) n)

pub words-spaces : (at : ℕ) (bs : List ℕ) → words at bs ≡ words (at + prefix_len is_space bs) (drop (prefix_len is_space bs) bs)
words-spaces at [] = refl
words-spaces at (b ∷ bs) = by_test (is_space b) refl (words-spaces (at + 1) bs)
  where
    by_test : (t : Bool) → is_space b ≡ t → words (at + 1) bs ≡ words (at + 1 + prefix_len is_space bs) (drop (prefix_len is_space bs) bs) → words at (b ∷ bs) ≡ words (at + cond t (1 + prefix_len is_space bs) 0) (drop (cond t (1 + prefix_len is_space bs) 0) (b ∷ bs))
    by_test true e h =
        let n : at + 1 + prefix_len is_space bs ≡ at + suc (prefix_len is_space bs) = omega arith in
        rw one-add (words-space at b bs e ∙ h ∙ ap (λ (k : ℕ). words k (drop (prefix_len is_space bs) bs)) n)
    by_test false e h = let n : at ≡ at + 0 = omega arith in ap (λ (k : ℕ). words k (b ∷ bs)) n

-- bytes without a space are one word
one : (at : ℕ) (bs : List ℕ) → (length bs == 0) ≡ false → kept at (bs ∷ []) ≡ at_place at bs ∷ []
one at bs e = rw e refl

more : (at n : ℕ) (body : List ℕ) (parts : List (List ℕ)) → (length body == 0) ≡ false → length body ≡ n → kept at (body ∷ parts) ≡ at_place at body ∷ kept (at + n + 1) parts
more at n body parts e len = rw (e, len) refl

-- the bytes before the first space are the first word, where there are any
pub words-word : (at n : ℕ) (bs : List ℕ) → n ≡ prefix_len no_space bs → 0 < n → words at bs ≡ at_place at (take n bs) ∷ words (at + n) (drop n bs)
words-word at n bs is some = by_end (length bs == n) refl
  where
    within : n ≤ length bs
    within = omega (arith, is, prefix_len-le-length no_space bs)

    len : length (take n bs) ≡ n
    len = ap (λ (k : ℕ). length (take k bs)) is ∙ length-prefix_len no_space bs ∙ sym is

    full : (length (take n bs) == 0) ≡ false
    full = grind (arith, nat_tests, len, some)

    by_end : (t : Bool) → (length bs == n) ≡ t → words at bs ≡ at_place at (take n bs) ∷ words (at + n) (drop n bs)
    by_end true e =
        let whole : length bs ≡ n = grind (arith, nat_tests, e) in
        let apart : All (λ b. is_space b ≡ false) bs = λ k d lt. not_false (is_space (get_or bs k d)) (prefix_len_passes no_space bs k d (omega (arith, lt, whole, is))) in
        let same : take n bs ≡ bs = take_all n bs (omega (arith, whole)) in
        let none : drop n bs ≡ [] = drop_all n bs (omega (arith, whole)) in
        ap (kept at) (slice_split_none is_space bs apart) ∙ one at bs (grind (arith, nat_tests, whole, some))
        ∙ ap (λ (p : List ℕ). at_place at p ∷ []) (sym same)
        ∙ ap (λ (r : List ℕ). at_place at (take n bs) ∷ words (at + n) r) (sym none)
    by_end false e =
        let short : n < length bs = grind (arith, nat_tests, e, within) in
        let space : is_space (get_or bs n 0) ≡ true = not_true (is_space (get_or bs n 0)) (ap (λ (k : ℕ). no_space (get_or bs k 0)) is ∙ prefix_len_stops no_space bs 0 (omega (arith, short, is))) in
        let cut = slice_split_first is_space bs 0 (omega (arith, short, is)) in
        let parts : slice_split is_space bs ≡ take n bs ∷ slice_split is_space (drop (n + 1) bs) = rw is cut in
        let rest : drop n bs ≡ get_or bs n 0 ∷ drop (n + 1) bs = rw add-one (drop-cons bs n 0 short) in
        ap (kept at) parts ∙ more at n (take n bs) (slice_split is_space (drop (n + 1) bs)) full len
        ∙ ap (λ (ws : List Word). at_place at (take n bs) ∷ ws) (sym (words-space (at + n) (get_or bs n 0) (drop (n + 1) bs) space))
        ∙ ap (λ (r : List ℕ). at_place at (take n bs) ∷ words (at + n) r) (sym rest)

-- behind the spaces there is a word, unless nothing is left
pub spaces_end : (bs : List ℕ) → prefix_len no_space (drop (prefix_len is_space bs) bs) ≡ 0 → drop (prefix_len is_space bs) bs ≡ []
spaces_end [] none = refl
spaces_end (b ∷ bs) none = by_test (is_space b) refl (spaces_end bs) none
  where
    by_test : (t : Bool) → is_space b ≡ t → (prefix_len no_space (drop (prefix_len is_space bs) bs) ≡ 0 → drop (prefix_len is_space bs) bs ≡ []) → prefix_len no_space (drop (cond t (1 + prefix_len is_space bs) 0) (b ∷ bs)) ≡ 0 → drop (cond t (1 + prefix_len is_space bs) 0) (b ∷ bs) ≡ []
    by_test true e h none = rw one-add (h (rw one-add at none))
    by_test false e h none = let some : prefix_len no_space (b ∷ bs) ≡ 1 + prefix_len no_space bs = rw e refl in absurd (omega (arith, some, none))

drop_more : (at k : ℕ) (text : List ℕ) → drop k (drop at text) ≡ drop (at + k) text
drop_more at k text = drop-drop k at text

-- the next word from an index on
pub next : (text : List ℕ) (at k n : ℕ) → k ≡ prefix_len is_space (drop at text) → n ≡ prefix_len no_space (drop (at + k) text) → 0 < n
    → words (at + 1) (drop at text) ≡ at_place (at + k + 1) (slice_range text (at + k) (at + k + n)) ∷ words (at + k + n + 1) (drop (at + k + n) text)
next text at k n spaces is some =
    let skipped : words (at + 1) (drop at text) ≡ words (at + 1 + k) (drop k (drop at text)) = rw spaces (words-spaces (at + 1) (drop at text)) in
    let place : at + 1 + k ≡ at + k + 1 = omega arith in
    let behind : at + k + 1 + n ≡ at + k + n + 1 = omega arith in
    let size : n ≡ (at + k + n) - (at + k) = omega arith in
    skipped ∙ ap (words (at + 1 + k)) (drop_more at k text) ∙ ap (λ (p : ℕ). words p (drop (at + k) text)) place
    ∙ words-word (at + k + 1) n (drop (at + k) text) is some
    ∙ ap (λ (m : ℕ). at_place (at + k + 1) (take m (drop (at + k) text)) ∷ words (at + k + 1 + n) (drop n (drop (at + k) text))) size
    ∙ ap (λ (p : ℕ). at_place (at + k + 1) (slice_range text (at + k) (at + k + n)) ∷ words p (drop n (drop (at + k) text))) behind
    ∙ ap (λ (r : List ℕ). at_place (at + k + 1) (slice_range text (at + k) (at + k + n)) ∷ words (at + k + n + 1) r) (drop_more (at + k) n text)

-- there is no word from an index on
pub no_next : (text : List ℕ) (at k n : ℕ) → k ≡ prefix_len is_space (drop at text) → n ≡ prefix_len no_space (drop (at + k) text) → n ≡ 0 → words (at + 1) (drop at text) ≡ []
no_next text at k n spaces is none =
    let rest : drop k (drop at text) ≡ drop (at + k) text = drop_more at k text in
    let same : drop (prefix_len is_space (drop at text)) (drop at text) ≡ drop (at + k) text = ap (λ (j : ℕ). drop j (drop at text)) (sym spaces) ∙ rest in
    let gone : drop (prefix_len is_space (drop at text)) (drop at text) ≡ [] = spaces_end (drop at text) (ap (prefix_len no_space) same ∙ sym is ∙ none) in
    words-spaces (at + 1) (drop at text) ∙ ap (words (at + 1 + prefix_len is_space (drop at text))) gone
