-- Words are names.
use Rattle.std.proofs.Common.{◌≡◌, ℕ, ◌≤◌, true, List, [], ◌∷◌, length, take, map, refl, sym, ◌∙◌, arith}
use Rattle.std.specs.List.{prefix_len, list_all, slice_get}
use Rattle.std.specs.Char.{is_ascii_alphabetic, to_ascii_lowercase}
use Rattle.std.proofs.lemmas.Bool.{leb-true, le-leb}
use Rattle.std.proofs.lemmas.List.{length-map}
use Rattle.std.proofs.lemmas.Bool.Decides.{nat_tests}
use Rattle.dl_base.specs.Name.{IsName, name_test, is_name_byte, is_letter}
use Rattle.sql_lex.specs.Spelling.{begins}
use Rattle.sql_lex.proofs.Bools.{and_left, and_right}
use Rattle.sql_lex.proofs.Runs.{run_all, run_len, begins_run}

letter_first : (bs : List ℕ) → is_letter (slice_get bs 0) ≡ begins is_ascii_alphabetic bs
letter_first [] = refl
letter_first (b ∷ bs) = refl

pub is_name : (bs : List ℕ) → length bs ≤ 64 → begins is_ascii_alphabetic bs ≡ true → list_all is_name_byte bs ≡ true → IsName bs
unfolding name_test
is_name bs short letter all = rw (le-leb (length bs) 64 short, letter_first bs, letter, all) refl

pub name_is : (bs : List ℕ) → IsName bs → (length bs ≤ 64) × (begins is_ascii_alphabetic bs ≡ true) × (list_all is_name_byte bs ≡ true)
unfolding name_test
name_is bs h = (leb-true (length bs) 64 (and_left _ _ (and_left _ _ h)), sym (letter_first bs) ∙ and_right _ _ (and_left _ _ h), and_right _ _ h)

letter_is_name_byte : (b : ℕ) → is_ascii_alphabetic b ≡ true → is_name_byte b ≡ true
letter_is_name_byte b e = rw e refl

-- the run of name bytes from a letter on is a name, where it is short enough
pub run_is_name : (bs : List ℕ) → prefix_len is_name_byte bs ≤ 64 → begins is_ascii_alphabetic bs ≡ true → IsName (take (prefix_len is_name_byte bs) bs)
run_is_name [] short letter = absurd cc
run_is_name (b ∷ bs) short letter =
    let n = prefix_len is_name_byte (b ∷ bs) in
    is_name (take n (b ∷ bs)) (omega (arith, run_len is_name_byte (b ∷ bs))) (begins_run is_name_byte is_ascii_alphabetic b bs (letter_is_name_byte b letter) letter) (run_all is_name_byte (b ∷ bs))

folded_byte : (b : ℕ) → is_name_byte b ≡ true → is_name_byte (to_ascii_lowercase b) ≡ true
folded_byte b e = grind (arith, nat_tests)

folded_letter : (b : ℕ) → is_ascii_alphabetic b ≡ true → is_ascii_alphabetic (to_ascii_lowercase b) ≡ true
folded_letter b e = grind (arith, nat_tests)

folded_all : (bs : List ℕ) → list_all is_name_byte bs ≡ true → list_all is_name_byte (map to_ascii_lowercase bs) ≡ true
folded_all [] h = refl
folded_all (b ∷ bs) h = rw (folded_byte b (and_left (is_name_byte b) _ h)) (folded_all bs (and_right (is_name_byte b) _ h))

folded_first : (bs : List ℕ) → begins is_ascii_alphabetic bs ≡ true → begins is_ascii_alphabetic (map to_ascii_lowercase bs) ≡ true
folded_first [] h = h
folded_first (b ∷ bs) h = folded_letter b h

-- folding a name gives a name
pub folded_name : (bs : List ℕ) → IsName bs → IsName (map to_ascii_lowercase bs)
folded_name bs h =
    let is = name_is bs h in
    is_name (map to_ascii_lowercase bs) (omega (arith, is.0, length-map bs to_ascii_lowercase)) (folded_first bs is.1) (folded_all bs is.2)

pub is_folded_name : (bs : List ℕ) (n : ℕ) → n ≡ prefix_len is_name_byte bs → n ≤ 64 → begins is_ascii_alphabetic bs ≡ true → IsName (map to_ascii_lowercase (take n bs))
is_folded_name bs n e short letter = rw e (folded_name (take (prefix_len is_name_byte bs) bs) (run_is_name bs (omega (arith, e)) letter))
