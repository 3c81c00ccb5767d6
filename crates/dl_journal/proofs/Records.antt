-- What the bytes of an area read as.
use Rattle.std.proofs.Common.{◌≡◌, ◌≢◌, ℕ, zero, suc, ◌+◌, ◌≤◌, ◌<◌, ◌^◌, List, [], ◌∷◌, ◌++◌, length, get_or, take, drop, refl, sym, ◌∙◌, ap, arith, append_assoc, length-append, length-drop, take-append-drop, true, false, nat_lt, ◌==◌, ◌-◌, slice_get, inl, inr, Some, Result, Ok, Err}
use Rattle.std.proofs.lemmas.List.{take_at, drop_at, drop_all, drop-drop, drop_more, append-nil}
use Rattle.std.proofs.lemmas.Option.{slice_get_within, get_or_from_slice_get}
use Rattle.std.proofs.lemmas.Bool.Decides.{nat_tests}
use Rattle.std.proofs.lemmas.Bool.{cases_lt}
use Rattle.std.proofs.lemmas.Nat.{from_be_bytes-to_be_bytes_8}
use Rattle.std.specs.Int.{to_be_bytes, from_be_bytes, w64}
use Rattle.dl_journal.specs.Records.{block, blocks, size, IsAtRest, is_whole, told_length, with_first, records_from, records}
use Rattle.dl_journal.specs.Steps.{IsBad}

-- the eight bytes of a body's length
abbrev pub header : List ℕ → List ℕ
header body = to_be_bytes w64 (length body)

pub length-header : (body : List ℕ) → length (header body) ≡ 8
length-header body = refl

pub length-blocks : (bodies : List (List ℕ)) → length (blocks bodies) ≡ size bodies
length-blocks [] = refl
length-blocks (x ∷ xs) = omega (arith, length-append (header x ++ x) (blocks xs), length-append (header x) x, length-header x, length-blocks xs)

-- one more record is nine bytes and its body
pub size-push : (bodies : List (List ℕ)) (body : List ℕ) → size (bodies ++ body ∷ []) ≡ size bodies + 9 + length body
size-push [] body = omega arith
size-push (x ∷ xs) body = omega (arith, size-push xs body)

slice_get-end : (front : List (List ℕ)) (last : List ℕ) → slice_get (front ++ last ∷ []) (length front) ≡ Some last
slice_get-end [] last = refl
slice_get-end (x ∷ xs) last = slice_get-end xs last

-- the last record is nine bytes and its body
pub last_is : (bodies : List (List ℕ)) (body : List ℕ) → Some body ≡ slice_get bodies (length bodies - 1) → (front : List (List ℕ)) (last : List ℕ) → bodies ≡ front ++ last ∷ [] → size bodies ≡ size front + 9 + length body
last_is bodies body is front last at =
    let end : length (front ++ last ∷ []) - 1 ≡ length front = omega (arith, length-append front (last ∷ [])) in
    let there : Some body ≡ Some last = is ∙ ap (λ (l : List (List ℕ)). slice_get l (length l - 1)) at ∙ ap (λ (k : ℕ). slice_get (front ++ last ∷ []) k) end ∙ slice_get-end front last in
    let same : body ≡ last = cc in
    omega (arith, ap size at, size-push front last, ap length same)

pub last_fits : (bodies : List (List ℕ)) (body : List ℕ) → Some body ≡ slice_get bodies (length bodies - 1) → 9 + length body ≤ size bodies
last_fits bodies body is =
    let k = length bodies - 1 in
    let within : k < length bodies = slice_get_within bodies k body (sym is) in
    let behind : drop k bodies ≡ body ∷ [] = drop_more bodies k body within ∙ ap (λ (b : List ℕ). b ∷ drop (k + 1) bodies) (get_or_from_slice_get bodies k body body (sym is)) ∙ ap (λ (l : List (List ℕ)). body ∷ l) (drop_all (k + 1) bodies (omega (arith, within))) in
    let at : bodies ≡ take k bodies ++ body ∷ [] = sym (take-append-drop k bodies) ∙ ap (λ (l : List (List ℕ)). take k bodies ++ l) behind in
    omega (arith, ap size at, size-push (take k bodies) body)

-- one more record stands behind the others
pub blocks-push : (bodies : List (List ℕ)) (body rest : List ℕ) → blocks (bodies ++ body ∷ []) ++ rest ≡ blocks bodies ++ 1 ∷ (header body ++ (body ++ rest))
blocks-push [] body rest =
    ap (λ (l : List ℕ). l ++ rest) (append-nil (block body)) ∙ append_assoc (1 ∷ header body) body rest
blocks-push (x ∷ xs) body rest =
    append_assoc (block x) (blocks (xs ++ body ∷ [])) rest
    ∙ ap (λ (l : List ℕ). block x ++ l) (blocks-push xs body rest)
    ∙ sym (append_assoc (block x) (blocks xs) (1 ∷ (header body ++ (body ++ rest))))

length-size : (bodies : List (List ℕ)) → length bodies ≤ size bodies
length-size [] = omega arith
length-size (x ∷ xs) = omega (arith, length-size xs)

-- records, a closed gate, and what stands behind it
pub record Split (bodies : List (List ℕ)) (bytes : List ℕ) : Type 0 where
  pub gate : ℕ
  pub rest : List ℕ
  pub closed : gate ≢ 1
  pub is : bytes ≡ blocks bodies ++ gate ∷ rest

pub split : (bodies : List (List ℕ)) (c : List ℕ) → IsAtRest bodies c → Split bodies c
split xs c at_rest = record {
  gate = get_or c (size xs) 0;
  rest = drop (size xs + 1) c;
  closed = at_rest.closed;
  is = sym (take-append-drop (size xs) c) ∙ ap (λ (l : List ℕ). l ++ drop (size xs) c) at_rest.front ∙ ap (λ (l : List ℕ). blocks xs ++ l) (drop_more c (size xs) 0 at_rest.more);
}

pub joined : (bodies : List (List ℕ)) (c : List ℕ) → size bodies < 2 ^ 63 → Split bodies c → IsAtRest bodies c
joined xs c fits s =
    let k = size xs in
    let long : k < length c = omega (arith, ap length s.is, length-append (blocks xs) (s.gate ∷ s.rest), length-blocks xs) in
    let behind : get_or c k 0 ∷ drop (k + 1) c ≡ s.gate ∷ s.rest = sym (drop_more c k 0 long) ∙ ap (λ (l : List ℕ). drop k l) s.is ∙ drop_at (blocks xs) (s.gate ∷ s.rest) k (length-blocks xs) in
    let gate : get_or c k 0 ≡ s.gate = cc in
    record {
      fits = fits;
      front = ap (λ (l : List ℕ). take k l) s.is ∙ take_at (blocks xs) (s.gate ∷ s.rest) k (length-blocks xs);
      more = long;
      closed = λ e. s.closed (sym gate ∙ e);
    }

-- one more record is read
pub pushed : (bytes rest next body : List ℕ) (bodies : List (List ℕ)) → bytes ≡ blocks bodies ++ rest → 0 < length rest → get_or rest 0 0 ≡ 1 → drop 1 rest ≡ header body ++ (body ++ next)
    → bytes ≡ blocks (bodies ++ body ∷ []) ++ next
pushed bytes rest next body bodies is more open_gate behind =
    let whole : rest ≡ 1 ∷ (header body ++ (body ++ next)) = drop_more rest 0 0 more ∙ ap (λ (g : ℕ). g ∷ drop 1 rest) open_gate ∙ ap (λ (l : List ℕ). 1 ∷ l) behind in
    is ∙ ap (λ (l : List ℕ). blocks bodies ++ l) whole ∙ sym (blocks-push bodies body next)

-- a record is so much longer than what follows it
pub length-record : (rest next body : List ℕ) → 0 < length rest → drop 1 rest ≡ header body ++ (body ++ next) → length rest ≡ 9 + length body + length next
length-record rest next body more behind =
    omega (arith, more, ap length behind, length-drop 1 rest, length-append (header body) (body ++ next), length-header body, length-append body next)

-- so its end is within what is left
pub record_fits : (place left all n more : ℕ) → place + left ≡ all → all ≤ 2 ^ 63 → left ≡ 9 + n + more → place + (9 + n) < 2 ^ 64
record_fits place left all n more is fits long = omega (arith, is, fits, long)

pub record_less : (left n more : ℕ) → left ≡ 9 + n + more → more < left
record_less left n more long = omega (arith, long)

-- a gate that is closed ends the list
pub ended : (bytes rest : List ℕ) (bodies : List (List ℕ)) (place : ℕ) → bytes ≡ blocks bodies ++ rest → 0 < length rest → size bodies ≡ place → place + length rest ≡ length bytes → length bytes ≤ 2 ^ 63 → get_or rest 0 0 ≢ 1
    → IsAtRest bodies bytes × (size bodies ≡ place)
ended bytes rest bodies place is more count all fits shut =
    (joined bodies bytes (omega (arith, more, count, all, fits)) (record { gate = get_or rest 0 0; rest = drop 1 rest; closed = shut; is = is ∙ ap (λ (l : List ℕ). blocks bodies ++ l) (drop_more rest 0 0 more) }), count)

-- a record that is whole, and more behind it
module _ (body more : List ℕ) (fits : length body < 2 ^ 64) where
  abbrev behind : List ℕ
  behind = header body ++ (body ++ more)

  told : told_length behind ≡ length body
  told = ap (λ (l : List ℕ). from_be_bytes w64 l) (take_at (header body) (body ++ more) 8 (length-header body)) ∙ from_be_bytes-to_be_bytes_8 (length body) fits

  length-behind : length behind ≡ 8 + (length body + length more)
  length-behind = omega (arith, length-append (header body) (body ++ more), length-header body, length-append body more)

  whole : 0 < length more → is_whole behind ≡ true
  whole some = let t = told in let l = length-behind in grind (arith, nat_tests, t, l, some)

  its_body : take (told_length behind) (drop 8 behind) ≡ body
  its_body =
      ap (λ (n : ℕ). take n (drop 8 behind)) told
      ∙ ap (λ (l : List ℕ). take (length body) l) (drop_at (header body) (body ++ more) 8 (length-header body))
      ∙ take_at body more (length body) refl

  its_rest : drop (8 + told_length behind) behind ≡ more
  its_rest =
      ap (λ (n : ℕ). drop (8 + n) behind) told
      ∙ sym (drop-drop (length body) 8 behind)
      ∙ ap (λ (l : List ℕ). drop (length body) l) (drop_at (header body) (body ++ more) 8 (length-header body))
      ∙ drop_at body more (length body) refl

  records_from-block : (most place : ℕ) → 0 < length more → records_from (suc most) place (block body ++ more) ≡ with_first body (records_from most (place + 9 + length body) more)
  unfolding records_from
  records_from-block most place some =
      let split : block body ++ more ≡ 1 ∷ behind = append_assoc (1 ∷ header body) body more in
      ap (λ (l : List ℕ). records_from (suc most) place l) split ∙ step (whole some)
      ∙ ap (λ (l : List ℕ). with_first l (records_from most (place + 9 + told_length behind) (drop (8 + told_length behind) behind))) its_body
      ∙ ap (λ (n : ℕ). with_first body (records_from most (place + 9 + n) (drop (8 + told_length behind) behind))) told
      ∙ ap (λ (l : List ℕ). with_first body (records_from most (place + 9 + length body) l)) its_rest
    where
      step : is_whole behind ≡ true → records_from (suc most) place (1 ∷ behind) ≡ with_first (take (told_length behind) (drop 8 behind)) (records_from most (place + 9 + told_length behind) (drop (8 + told_length behind) behind))
      step w = rw w refl

records_from-closed : (most place gate : ℕ) (rest : List ℕ) → gate ≢ 1 → records_from most place (gate ∷ rest) ≡ Ok []
unfolding records_from
records_from-closed zero place gate rest shut = refl
records_from-closed (suc most) place gate rest shut = let no : (gate == 1) ≡ false = grind (arith, nat_tests) in rw no refl

records_from-cut_short : (most place : ℕ) (behind : List ℕ) → 0 < most → is_whole behind ≡ false → records_from most place (1 ∷ behind) ≡ Err place
unfolding records_from
records_from-cut_short zero place behind some bad = absurd (omega arith)
records_from-cut_short (suc most) place behind some bad = rw bad refl

some_behind : (xs ys : List ℕ) (y : ℕ) → 0 < length (xs ++ y ∷ ys)
some_behind xs ys y = omega (arith, length-append xs (y ∷ ys))

-- records and a closed gate read as the bodies
records_from-at_rest : (bodies : List (List ℕ)) (most place gate : ℕ) (rest : List ℕ) → length bodies ≤ most → size bodies < 2 ^ 64 → gate ≢ 1 → records_from most place (blocks bodies ++ gate ∷ rest) ≡ Ok bodies
records_from-at_rest [] most place gate rest le fits shut = records_from-closed most place gate rest shut
records_from-at_rest (x ∷ xs) zero place gate rest le fits shut = absurd (omega arith)
records_from-at_rest (x ∷ xs) (suc most) place gate rest le fits shut =
    ap (λ (l : List ℕ). records_from (suc most) place l) (append_assoc (block x) (blocks xs) (gate ∷ rest))
    ∙ records_from-block x (blocks xs ++ gate ∷ rest) (omega arith) most place (some_behind (blocks xs) rest gate)
    ∙ ap (λ (r : Result (List (List ℕ)) ℕ). with_first x r) (records_from-at_rest xs most (place + 9 + length x) gate rest (omega arith) (omega arith) shut)

-- records, and a bad one at the last gate
records_from-bad : (bodies : List (List ℕ)) (most place : ℕ) (behind : List ℕ) → length bodies < most → size bodies < 2 ^ 64 → is_whole behind ≡ false → records_from most place (blocks bodies ++ 1 ∷ behind) ≡ Err (place + size bodies)
records_from-bad [] most place behind lt fits bad = records_from-cut_short most place behind (omega arith) bad ∙ ap (λ (n : ℕ). Err n) (omega arith)
records_from-bad (x ∷ xs) zero place behind lt fits bad = absurd (omega arith)
records_from-bad (x ∷ xs) (suc most) place behind lt fits bad =
    ap (λ (l : List ℕ). records_from (suc most) place l) (append_assoc (block x) (blocks xs) (1 ∷ behind))
    ∙ records_from-block x (blocks xs ++ 1 ∷ behind) (omega arith) most place (some_behind (blocks xs) behind 1)
    ∙ ap (λ (r : Result (List (List ℕ)) ℕ). with_first x r) (records_from-bad xs most (place + 9 + length x) behind (omega arith) (omega arith) bad)
    ∙ ap (λ (n : ℕ). Err n) (omega arith)

none : (bodies : List (List ℕ)) → size bodies < 9 → bodies ≡ []
none [] lt = refl
none (x ∷ xs) lt = absurd (omega arith)

-- an area that is this list reads as it
pub records-at_rest : (bodies : List (List ℕ)) (c : List ℕ) → IsAtRest bodies c → records c ≡ Ok bodies
unfolding records
records-at_rest xs c is_at_rest =
    let at_rest = split xs c is_at_rest in
    let fits = is_at_rest.fits in
    let long : length c ≡ size xs + (1 + length at_rest.rest) = omega (arith, ap length at_rest.is, length-append (blocks xs) (at_rest.gate ∷ at_rest.rest), length-blocks xs) in
    elim (cases_lt (length c) 2) [
      | inl short ↦ let no : nat_lt (length c) 2 ≡ true = grind (arith, nat_tests) in rw no (ap (λ (l : List (List ℕ)). Ok l) (sym (none xs (omega arith))))
      | inr enough ↦
          let no : nat_lt (length c) 2 ≡ false = grind (arith, nat_tests) in
          rw no (ap (λ (l : List ℕ). records_from (length c) 0 l) at_rest.is ∙ records_from-at_rest xs (length c) 0 at_rest.gate at_rest.rest (omega (arith, length-size xs)) (omega arith) at_rest.closed)
    ]

-- an area is at most one list
pub same_at_rest : (xs ys : List (List ℕ)) (c : List ℕ) → IsAtRest xs c → IsAtRest ys c → xs ≡ ys
same_at_rest xs ys c first second = let a = records-at_rest xs c first in let b = records-at_rest ys c second in cc

-- an open gate with no whole record, behind these: the place is that gate's
pub records-bad : (bodies : List (List ℕ)) (c : List ℕ) → size bodies < 2 ^ 64 → 2 ≤ length c → IsBad bodies c → records c ≡ Err (size bodies)
unfolding records
records-bad xs c fits enough bad =
    let long : length c ≡ size xs + (1 + length bad.behind) = omega (arith, ap length bad.is, length-append (blocks xs) (1 ∷ bad.behind), length-blocks xs) in
    let no : nat_lt (length c) 2 ≡ false = grind (arith, nat_tests) in
    rw no (ap (λ (l : List ℕ). records_from (length c) 0 l) bad.is ∙ records_from-bad xs (length c) 0 bad.behind (omega (arith, length-size xs)) fits bad.cut_short ∙ ap (λ (n : ℕ). Err n) (omega arith))

-- fewer than two bytes are the empty list
pub records-short : (c : List ℕ) → length c < 2 → records c ≡ Ok []
unfolding records
records-short c short = let yes : nat_lt (length c) 2 ≡ true = grind (arith, nat_tests) in rw yes refl

pub bad_from : (bytes rest : List ℕ) (bodies : List (List ℕ)) → bytes ≡ blocks bodies ++ rest → 0 < length rest → get_or rest 0 0 ≡ 1 → is_whole (drop 1 rest) ≡ false → IsBad bodies bytes
bad_from bytes rest bodies is more open_gate bad = record {
  behind = drop 1 rest;
  cut_short = bad;
  is = is ∙ ap (λ (l : List ℕ). blocks bodies ++ l) (drop_more rest 0 0 more ∙ ap (λ (g : ℕ). g ∷ drop 1 rest) open_gate);
}

-- so the bytes are no list from that gate's place on
pub bad_at : (bytes rest : List ℕ) (bodies : List (List ℕ)) (place : ℕ) → bytes ≡ blocks bodies ++ rest → 0 < length rest → size bodies ≡ place → place + length rest ≡ length bytes → length bytes ≤ 2 ^ 63 → 2 ≤ length bytes → get_or rest 0 0 ≡ 1 → is_whole (drop 1 rest) ≡ false
    → records bytes ≡ Err place
bad_at bytes rest bodies place is more count all fits enough open_gate bad =
    records-bad bodies bytes (omega (arith, count, all, fits)) enough (bad_from bytes rest bodies is more open_gate bad) ∙ ap (λ (n : ℕ). Err n) count
