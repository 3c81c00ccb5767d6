-- The last name of a text, and what stands before it.
use Rattle.std.proofs.Common.{◌≡◌, ℕ, ◌+◌, ◌-◌, ◌<◌, ◌==◌, Bool, true, false, not, List, ◌++◌, length, take, drop, get_or, refl, sym, ap, ◌∙◌, arith, inl, inr, length-append, length-take, length-drop, reverse}
use Rattle.std.proofs.lemmas.List.{take-append-drop, take_at, drop_at, get_or_append_left, get_or-append_right, get_or-take, get_or-drop, get_or-reverse, length-reverse}
use Rattle.std.proofs.lemmas.List.Elements.{All-get_or}
use Rattle.std.proofs.lemmas.Bool.{cases_lt}
use Rattle.std.proofs.lemmas.List.Sums.{suffix_len_is, suffix_len-le-length, prefix_len_passes, prefix_len_stops, AllPass-from_list_all}
use Rattle.std.specs.List.{list_all, suffix_len}
use Rattle.dl_token.specs.Tokens.{last_name, folder}

abbrev pub is_no_slash : ℕ → Bool
is_no_slash b = not (b == 47)

-- each byte is no slash
abbrev pub NoSlash : List ℕ → Type 0
NoSlash name = (k : ℕ) → k < length name → is_no_slash (get_or name k 0) ≡ true

-- it is empty or ends with a slash
abbrev pub EndsFolder : List ℕ → Type 0
EndsFolder front = 0 < length front → is_no_slash (get_or front (length front - 1) 0) ≡ false

pub last_name_of : (front name : List ℕ) → EndsFolder front → NoSlash name → last_name (front ++ name) ≡ name
last_name_of front name ends none =
    let len = length-append front name in
    let n : suffix_len is_no_slash (front ++ name) ≡ length (front ++ name) - length front =
    suffix_len_is is_no_slash (front ++ name) (length front) 0 (omega (arith, len))
    (λ k ge lt.
    let e : get_or (front ++ name) k 0 ≡ get_or name (k - length front) 0 = get_or-append_right front name (length front) k 0 refl ge in
    ap is_no_slash e ∙ none (k - length front) (omega (arith, len)))
    (λ some. ap is_no_slash (get_or_append_left front name 0 (length front - 1) (omega arith)) ∙ ends some) in
    let at : length (front ++ name) - suffix_len is_no_slash (front ++ name) ≡ length front = omega (arith, len, n) in
    ap (λ (k : ℕ). drop k (front ++ name)) at ∙ drop_at front name (length front) refl

pub folder_of : (front name : List ℕ) → EndsFolder front → NoSlash name → folder (front ++ name) ≡ front
folder_of front name ends none =
    let len = length-append front name in
    let e = ap length (last_name_of front name ends none) in
    let at : length (front ++ name) - length (last_name (front ++ name)) ≡ length front = omega (arith, len, e) in
    ap (λ (k : ℕ). take k (front ++ name)) at ∙ take_at front name (length front) refl

-- a text is its folder and its last name
pub parts : (text : List ℕ) → folder text ++ last_name text ≡ text
parts text =
    let le = suffix_len-le-length is_no_slash text in
    let len : length (last_name text) ≡ suffix_len is_no_slash text = omega (arith, length-drop (length text - suffix_len is_no_slash text) text) in
    let at : length text - length (last_name text) ≡ length text - suffix_len is_no_slash text = omega (arith, len) in
    ap (λ (k : ℕ). take k text ++ last_name text) at ∙ take-append-drop (length text - suffix_len is_no_slash text) text

pub no_slash_in_last_name : (text : List ℕ) → NoSlash (last_name text)
no_slash_in_last_name text k lt =
    let le = suffix_len-le-length is_no_slash text in
    let len : length (last_name text) ≡ suffix_len is_no_slash text = omega (arith, length-drop (length text - suffix_len is_no_slash text) text) in
    let at = get_or-drop (length text - suffix_len is_no_slash text) text k 0 in
    let back = get_or-reverse text (suffix_len is_no_slash text - 1 - k) 0 (omega (arith, len, le)) in
    let same : length text - 1 - (suffix_len is_no_slash text - 1 - k) ≡ length text - suffix_len is_no_slash text + k = omega (arith, len, le) in
    ap is_no_slash (at ∙ sym (back ∙ ap (λ (i : ℕ). get_or text i 0) same))
    ∙ prefix_len_passes is_no_slash (reverse text) (suffix_len is_no_slash text - 1 - k) 0 (omega (arith, len, le))

pub folder_ends : (text : List ℕ) → EndsFolder (folder text)
folder_ends text some =
    let le = suffix_len-le-length is_no_slash text in
    let len : length (last_name text) ≡ suffix_len is_no_slash text = omega (arith, length-drop (length text - suffix_len is_no_slash text) text) in
    let front : length (folder text) ≡ length text - suffix_len is_no_slash text = omega (arith, len, le, length-take (length text - length (last_name text)) text) in
    let at : get_or (folder text) (length (folder text) - 1) 0 ≡ get_or text (length (folder text) - 1) 0 =
    get_or-take (length text - length (last_name text)) text (length (folder text) - 1) 0 (omega (arith, len, front)) in
    let back = get_or-reverse text (suffix_len is_no_slash text) 0 (omega (arith, front)) in
    let same : length text - 1 - suffix_len is_no_slash text ≡ length (folder text) - 1 = omega (arith, front) in
    ap is_no_slash (at ∙ sym (back ∙ ap (λ (i : ℕ). get_or text i 0) same))
    ∙ prefix_len_stops is_no_slash (reverse text) 0 (omega (arith, front, length-reverse text))

pub no_slash_behind : (n : ℕ) (name : List ℕ) → NoSlash name → NoSlash (drop n name)
no_slash_behind n name none k lt = ap is_no_slash (get_or-drop n name k 0) ∙ none (n + k) (omega (arith, length-drop n name))

pub no_slash_after : (front name : List ℕ) → NoSlash front → NoSlash name → NoSlash (front ++ name)
no_slash_after front name first second k lt =
    elim (cases_lt k (length front)) [
      | inl below ↦ ap is_no_slash (get_or_append_left front name 0 k below) ∙ first k below
      | inr past ↦
          ap is_no_slash (get_or-append_right front name (length front) k 0 refl past)
          ∙ second (k - length front) (omega (arith, length-append front name))
    ]

pub no_slash_of_all : (p : ℕ → Bool) (name : List ℕ) → ((b : ℕ) → p b ≡ true → is_no_slash b ≡ true) → list_all p name ≡ true → NoSlash name
no_slash_of_all p name h all k lt = h (get_or name k 0) (All-get_or (λ b. p b ≡ true) name k 0 lt (AllPass-from_list_all p name all))
