-- What the loops keep.
use Rattle.std.proofs.Common.{◌≡◌, ℕ, zero, suc, ◌+◌, ◌-◌, ◌*◌, ◌≤◌, ◌<◌, ◌^◌, Bool, true, false, leb, ◌==◌, List, [], ◌∷◌, ◌++◌, length, drop, get_or, Option, Some, None, refl, sym, ap, ◌∙◌, arith, append_assoc, append-nil}
use Rattle.std.specs.Prelude.{IfSome}
use Rattle.std.specs.Bool.{then_some}
use Rattle.std.specs.List.{list_all}
use Rattle.std.specs.Char.{is_ascii_digit}
use Rattle.std.proofs.lemmas.Bool.{lt-leb, leb-true, eqb-true}
use Rattle.std.proofs.lemmas.List.{at_drop_more, at_drop_all}
use Rattle.sql_lex.specs.Spelling.{is_literal_byte}
use Rattle.sql_lex.proofs.Bools.{and_left, and_right}
use Rattle.sql_lex.specs.Scan.{decimal_from, decimal_below, literal_text, with_byte, one_longer}

decimal_grows : (ds : List ℕ) (v : ℕ) → v ≤ decimal_from v ds
decimal_grows [] v = omega arith
decimal_grows (d ∷ ds) v = omega (arith, decimal_grows ds (10 * v + (d - 48)))

pub decimal_step : (v i : ℕ) (ds : List ℕ) → i < length ds → decimal_from v (drop i ds) ≡ decimal_from (10 * v + (get_or ds i 0 - 48)) (drop (i + 1) ds)
decimal_step v i ds h = at_drop_more (decimal_from v) ds i 0 h

pub too_wide : (v i : ℕ) (ds : List ℕ) → i < length ds → decimal_from v (drop i ds) ≡ decimal_from 0 ds → 2 ^ 63 ≤ 10 * v + (get_or ds i 0 - 48) → decimal_below ds ≡ None
too_wide v i ds h e le =
    let g = decimal_grows (drop (i + 1) ds) (10 * v + (get_or ds i 0 - 48)) in
    rw (lt-leb (suc (decimal_from 0 ds)) (2 ^ 63) (omega (arith, sym e ∙ decimal_step v i ds h))) refl

digit_range : (d : ℕ) → is_ascii_digit d ≡ true → (48 ≤ d) × (d ≤ 57)
digit_range d e = (leb-true 48 d (and_left (leb 48 d) (leb d 57) e), leb-true d 57 (and_right (leb 48 d) (leb d 57) e))

pub digit_at : (ds : List ℕ) (i : ℕ) → list_all is_ascii_digit ds ≡ true → i < length ds → (48 ≤ get_or ds i 0) × (get_or ds i 0 ≤ 57)
digit_at [] i h lt = absurd (omega arith)
digit_at (d ∷ ds) zero h lt = digit_range d (and_left (is_ascii_digit d) (list_all is_ascii_digit ds) h)
digit_at (d ∷ ds) (suc i) h lt = digit_at ds i (and_right (is_ascii_digit d) (list_all is_ascii_digit ds) h) (omega arith)

-- the text so far, and what was read behind it
abbrev pub text_front : List ℕ → ℕ → Option (List ℕ × ℕ) → Option (List ℕ × ℕ)
text_front front n None = None
text_front front n (Some t) = Some (front ++ t.0, n + t.1)

pub no_text_yet : (o : Option (List ℕ × ℕ)) → text_front [] 0 o ≡ o
no_text_yet None = refl
no_text_yet (Some t) = ap (λ n. Some (t.0, n)) (omega arith)

nothing_more : (front : List ℕ) (n : ℕ) → text_front front n (Some ([], 0)) ≡ Some (front, n)
nothing_more front n = (λ i. Some (append-nil front i, len i))
  where
    len : n + 0 ≡ n
    len = omega arith

front_more : (front : List ℕ) (n b : ℕ) (o : Option (List ℕ × ℕ)) → text_front (front ++ b ∷ []) (n + 1) o ≡ text_front front n (with_byte b o)
front_more front n b None = refl
front_more front n b (Some t) = (λ i. Some (append_assoc front (b ∷ []) t.0 i, lens i))
  where
    lens : n + 1 + t.1 ≡ n + suc t.1
    lens = omega arith

front_longer : (front : List ℕ) (n : ℕ) (o : Option (List ℕ × ℕ)) → text_front front (n + 1) o ≡ text_front front n (one_longer o)
front_longer front n None = refl
front_longer front n (Some t) = ap (λ k. Some (front ++ t.0, k)) (omega arith)

module _ (front bs : List ℕ) (i b : ℕ) (total : Option (List ℕ × ℕ)) (lt : i < length bs) (b-is : b ≡ get_or bs i 0) where
  here : (q : Bool) → literal_text q (drop i bs) ≡ literal_text q (b ∷ drop (i + 1) bs)
  here q = at_drop_more (literal_text q) bs i 0 lt ∙ ap (λ x. literal_text q (x ∷ drop (i + 1) bs)) (sym b-is)

  pub first_quote : b ≡ 39 → text_front front i (literal_text false (drop i bs)) ≡ total → text_front front (i + 1) (literal_text true (drop (i + 1) bs)) ≡ total
  first_quote e h = front_longer front i (literal_text true (drop (i + 1) bs)) ∙ ap (text_front front i) (sym (here false ∙ ap (λ x. literal_text false (x ∷ drop (i + 1) bs)) e)) ∙ h

  pub second_quote : b ≡ 39 → text_front front i (literal_text true (drop i bs)) ≡ total → text_front (front ++ 39 ∷ []) (i + 1) (literal_text false (drop (i + 1) bs)) ≡ total
  second_quote e h = front_more front i 39 (literal_text false (drop (i + 1) bs)) ∙ ap (text_front front i) (sym (here true ∙ ap (λ x. literal_text true (x ∷ drop (i + 1) bs)) e)) ∙ h

  pub one_byte : (b == 39) ≡ false → is_literal_byte b ≡ true → text_front front i (literal_text false (drop i bs)) ≡ total → text_front (front ++ b ∷ []) (i + 1) (literal_text false (drop (i + 1) bs)) ≡ total
  one_byte e fine h = front_more front i b (literal_text false (drop (i + 1) bs)) ∙ ap (text_front front i) (sym (here false ∙ rw (e, fine) refl)) ∙ h

  pub closed : (b == 39) ≡ false → text_front front i (literal_text true (drop i bs)) ≡ total → Some (front, i) ≡ total
  closed e h =
      let ends : literal_text true (b ∷ drop (i + 1) bs) ≡ Some ([], 0) = rw e refl in
      sym (nothing_more front i) ∙ ap (text_front front i) (sym (here true ∙ ends)) ∙ h

  pub stopped : (b == 39) ≡ false → is_literal_byte b ≡ false → text_front front i (literal_text false (drop i bs)) ≡ total → None ≡ total
  stopped e bad h =
      let none : literal_text false (b ∷ drop (i + 1) bs) ≡ None = rw (e, bad) refl in
      ap (text_front front i) (sym (here false ∙ none)) ∙ h

-- behind all bytes the text is closed by the quote before them, or open
pub at_end : (front bs : List ℕ) (i : ℕ) (q : Bool) (total : Option (List ℕ × ℕ)) → i ≤ length bs → length bs ≤ i → text_front front i (literal_text q (drop i bs)) ≡ total → then_some q (front, length bs) ≡ total
at_end front bs i q total le ge h = said q ∙ sym (at_drop_all (λ (x : List ℕ). text_front front i (literal_text q x)) bs i ge) ∙ h
  where
    said : (q : Bool) → then_some q (front, length bs) ≡ text_front front i (literal_text q [])
    said true = ap (λ n. Some (front, n)) (omega (arith, le, ge)) ∙ sym (nothing_more front i)
    said false = refl

pub some_within : (q : Bool) (text : List ℕ) (n : ℕ) → IfSome {T = List ℕ × ℕ} (then_some q (text, n)) (λ t. t.1 ≤ n)
some_within true text n = omega arith
some_within false text n = tt

pub no_quote : (b : ℕ) → (b ≡ 39 → ⊥) → (b == 39) ≡ false
no_quote b h = by_test (b == 39) refl
  where
    by_test : (q : Bool) → (b == 39) ≡ q → q ≡ false
    by_test true e = absurd (h (eqb-true b 39 e))
    by_test false e = refl
