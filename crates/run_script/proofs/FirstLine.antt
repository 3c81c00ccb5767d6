-- The first line of a script, by where its newline stands.
use Rattle.std.proofs.Common.{◌≡◌, ℕ, ◌+◌, ◌<◌, ◌≤◌, ◌==◌, nat_lt, Bool, true, false, cond, List, [], ◌∷◌, length, take, drop, refl, ap, ◌∙◌, arith, Some, None}
use Rattle.std.specs.List.{All, position, position_or_len, slice_split}
use Rattle.std.specs.Str.Lines.{lines, lines_of_parts, strip_carriage_return}
use Rattle.std.proofs.lemmas.List.Splits.{slice_split_first, slice_split_none, length-slice_split}
use Rattle.std.proofs.lemmas.List.Sums.{fails_before_first}
use Rattle.std.proofs.lemmas.Bool.{ltb-true}
use Rattle.std.proofs.lemmas.Bool.Decides.{nat_tests}
use Rattle.std.proofs.lemmas.Option.{cond_some}

abbrev is_newline : ℕ → Bool
is_newline b = b == 10

-- a part that others follow loses its carriage return
lines_of_parts-cons : (x : List ℕ) (parts : List (List ℕ)) → 0 < length parts → lines_of_parts (x ∷ parts) ≡ strip_carriage_return x ∷ lines_of_parts parts
lines_of_parts-cons x [] some = absurd (omega arith)
lines_of_parts-cons x (y ∷ more) some = refl

not_found : (b : Bool) (place : ℕ) → cond b (Some place) None ≡ None → b ≡ false
not_found true place is = absurd cc
not_found false place is = refl

pub lines_first : (script : List ℕ) (k : ℕ) → position is_newline script ≡ Some k → lines script ≡ strip_carriage_return (take k script) ∷ lines (drop (k + 1) script)
lines_first script k at =
    let place : ℕ = position_or_len is_newline script in
    let found = cond_some (nat_lt place (length script)) place k at in
    let within : place < length script = ltb-true place (length script) found.0 in
    let some : 0 < length (slice_split is_newline (drop (place + 1) script)) = omega (arith, length-slice_split is_newline (drop (place + 1) script)) in
    ap lines_of_parts (slice_split_first is_newline script 0 within)
    ∙ lines_of_parts-cons (take place script) (slice_split is_newline (drop (place + 1) script)) some
    ∙ ap (λ (n : ℕ). strip_carriage_return (take n script) ∷ lines (drop (n + 1) script)) found.1

pub lines_last : (script : List ℕ) → position is_newline script ≡ None → 0 < length script → lines script ≡ script ∷ []
lines_last script none some =
    let place : ℕ = position_or_len is_newline script in
    let past : length script ≤ place = let t = not_found (nat_lt place (length script)) place none in grind (arith, nat_tests, t) in
    let apart : All (λ b. is_newline b ≡ false) script = λ k d lt. fails_before_first is_newline script k d (omega (arith, lt, past)) in
    ap lines_of_parts (slice_split_none is_newline script apart) ∙ whole script some
  where
    whole : (xs : List ℕ) → 0 < length xs → lines_of_parts (xs ∷ []) ≡ xs ∷ []
    whole [] some = absurd (omega arith)
    whole (x ∷ xs) some = let full : (length (x ∷ xs) == 0) ≡ false = grind (arith, nat_tests) in rw full refl
