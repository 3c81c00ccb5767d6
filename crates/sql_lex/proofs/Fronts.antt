-- The lexeme at the front: what is found is spelled so, and what is spelled so is found.
use Rattle.std.proofs.Common.{◌≡◌, ℕ, suc, ◌^◌, ◌<◌, true, false, cond, leb, ltb, ◌==◌, List, [], ◌∷◌, ◌++◌, length, take, drop, map, Some, None, refl, sym, ap, ◌∙◌, subst, arith, pos}
use Rattle.std.specs.List.{prefix_len, list_all}
use Rattle.std.specs.Char.{is_ascii_digit, is_ascii_alphabetic, to_ascii_lowercase}
use Rattle.std.proofs.lemmas.Bool.{leb-true, le-leb}
use Rattle.std.proofs.lemmas.List.{take_at, take-append-drop}
use Rattle.std.proofs.lemmas.Bool.Decides.{nat_tests}
use Rattle.dl_base.specs.Name.{is_name_byte}
use Rattle.sql_lex.specs.declared.lexeme.LexKind.{LexKind}
use Rattle.sql_lex.specs.declared.lexeme.LexKind.TheVariants.{Word, Number, Literal, Sign}
use Rattle.sql_lex.specs.Spelling.{begins, Spells, IsFront}
use Rattle.sql_lex.specs.Scan.{decimal_from, word_front, number_front, literal_text, literal_front, front}
use Rattle.sql_lex.proofs.Bools.{cond_true, cond_false, and_left}
use Rattle.sql_lex.proofs.Runs.{run_all, run_ends, run_is, run_len, run_some}
use Rattle.sql_lex.proofs.Numbers.{is_number, number_is}
use Rattle.sql_lex.proofs.Words.{name_is, run_is_name}
use Rattle.sql_lex.proofs.Found.{Found, found_if}
use Rattle.sql_lex.proofs.Literals.{is_quote, literal_quoted, literal_found, literal_front_again}
use Rattle.sql_lex.proofs.Signs.{sign_found, sign_again}

word_found : (b : ℕ) (bs : List ℕ) → is_ascii_alphabetic b ≡ true → Found (b ∷ bs) (word_front (b ∷ bs))
word_found b bs e =
    let n = prefix_len is_name_byte (b ∷ bs) in
    found_if (b ∷ bs) (leb n 64) _ None (λ le. (take n (b ∷ bs), drop n (b ∷ bs), sym (take-append-drop n (b ∷ bs)), run_len is_name_byte (b ∷ bs), ((run_is_name (b ∷ bs) (leb-true n 64 le) e, refl), run_ends is_name_byte (b ∷ bs)))) (λ _. tt)

number_found : (b : ℕ) (bs : List ℕ) → is_ascii_digit b ≡ true → Found (b ∷ bs) (number_front (b ∷ bs))
number_found b bs e =
    let n = prefix_len is_ascii_digit (b ∷ bs) in
    let digits = take n (b ∷ bs) in
    let some : 0 < length digits = omega (arith, run_len is_ascii_digit (b ∷ bs), run_some is_ascii_digit b bs e) in
    found_if (b ∷ bs) (ltb (decimal_from 0 digits) (2 ^ 63)) _ None (λ lt. (digits, drop n (b ∷ bs), sym (take-append-drop n (b ∷ bs)), run_len is_ascii_digit (b ∷ bs), (is_number digits some (run_all is_ascii_digit (b ∷ bs)) (leb-true (suc (decimal_from 0 digits)) (2 ^ 63) lt), run_ends is_ascii_digit (b ∷ bs)))) (λ _. tt)

pub front_found : (bs : List ℕ) → Found bs (front bs)
unfolding front
front_found [] = tt
front_found (b ∷ bs) =
    found_if (b ∷ bs) (is_ascii_alphabetic b) _ _ (λ e. word_found b bs e)
    (λ _. found_if (b ∷ bs) (is_ascii_digit b) _ _ (λ e. number_found b bs e)
    (λ _. found_if (b ∷ bs) (b == 39) _ _ (λ e. subst (λ x. Found (x ∷ bs) (literal_front (literal_text false bs))) (sym (is_quote b e)) (literal_found bs (literal_text false bs) (literal_quoted false bs)))
    (λ _. sign_found b bs)))

pub digit_no_letter : (b : ℕ) → is_ascii_digit b ≡ true → is_ascii_alphabetic b ≡ false
digit_no_letter b e = grind (arith, nat_tests)

word_again : (b : ℕ) (body rest w : List ℕ) → Spells (Word w) (b ∷ body) → begins is_name_byte rest ≡ false → front ((b ∷ body) ++ rest) ≡ Some (Word w, length (b ∷ body))
unfolding front
word_again b body rest w s ends =
    let is = name_is (b ∷ body) s.0 in
    let n : prefix_len is_name_byte ((b ∷ body) ++ rest) ≡ length (b ∷ body) = run_is is_name_byte (b ∷ body) rest is.2 ends in
    cond_true (is_ascii_alphabetic b) _ _ is.1
    ∙ ap (λ n. cond (leb n 64) (Some (Word (map to_ascii_lowercase (take n ((b ∷ body) ++ rest))), n)) None) n
    ∙ cond_true (leb (length (b ∷ body)) 64) _ _ (le-leb (length (b ∷ body)) 64 is.0)
    ∙ ap (λ x. Some (Word x, length (b ∷ body))) (ap (map to_ascii_lowercase) (take_at (b ∷ body) rest (length (b ∷ body)) refl) ∙ sym s.1)

number_again : (b : ℕ) (body rest : List ℕ) (z : _) → Spells (Number z) (b ∷ body) → begins is_ascii_digit rest ≡ false → front ((b ∷ body) ++ rest) ≡ Some (Number z, length (b ∷ body))
unfolding front
number_again b body rest z s ends =
    let is = number_is z (b ∷ body) s in
    let digit : is_ascii_digit b ≡ true = and_left (is_ascii_digit b) (list_all is_ascii_digit body) is.0 in
    let n : prefix_len is_ascii_digit ((b ∷ body) ++ rest) ≡ length (b ∷ body) = run_is is_ascii_digit (b ∷ body) rest is.0 ends in
    let t : take (length (b ∷ body)) ((b ∷ body) ++ rest) ≡ b ∷ body = take_at (b ∷ body) rest (length (b ∷ body)) refl in
    cond_false (is_ascii_alphabetic b) _ _ (digit_no_letter b digit)
    ∙ cond_true (is_ascii_digit b) _ _ digit
    ∙ ap (λ n. cond (ltb (decimal_from 0 (take n ((b ∷ body) ++ rest))) (2 ^ 63)) (Some (Number (pos (decimal_from 0 (take n ((b ∷ body) ++ rest)))), n)) None) n
    ∙ ap (λ (x : List ℕ). cond (ltb (decimal_from 0 x) (2 ^ 63)) (Some (Number (pos (decimal_from 0 x)), length (b ∷ body))) None) t
    ∙ cond_true (ltb (decimal_from 0 (b ∷ body)) (2 ^ 63)) _ _ (le-leb (suc (decimal_from 0 (b ∷ body))) (2 ^ 63) (omega (arith, is.1)))
    ∙ ap (λ x. Some (Number x, length (b ∷ body))) (sym is.2)

pub front_again : (kind : LexKind) (body rest : List ℕ) → IsFront kind body rest → front (body ++ rest) ≡ Some (kind, length body)
front_again (Word w) [] rest h = absurd (let e = (name_is [] h.0.0).1 in cc)
front_again (Word w) (b ∷ body) rest h = word_again b body rest w h.0 h.1
front_again (Number z) [] rest h = absurd (let e = h.0.0.0 in omega arith)
front_again (Number z) (b ∷ body) rest h = number_again b body rest z h.0 h.1
front_again (Literal t) body rest h = subst (λ (x : List ℕ). front (x ++ rest) ≡ Some (Literal t, length x)) (sym h.0.1) (literal_front_again t rest h.0.0 h.1)
front_again (Sign k) body rest h = sign_again k body rest h.0 h.1
