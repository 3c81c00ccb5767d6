-- Reading from left to right: what is read is meant, and what is meant is read.
use Rattle.std.proofs.Common.{◌≡◌, ℕ, zero, suc, ◌+◌, ◌-◌, ◌≤◌, Bool, true, false, ◌||◌, ◌==◌, cond, List, [], ◌∷◌, ◌++◌, length, drop, Some, None, Result, Ok, Err, ◌⊎◌, inl, inr, refl, sym, ap, ◌∙◌, subst, arith, append_assoc, length-append}
use Rattle.std.specs.List.{list_all, slice_get}
use Rattle.std.proofs.lemmas.Bool.{eqb-true}
use Rattle.std.proofs.lemmas.List.{drop_at, append-nil}
use Rattle.sql_lex.specs.declared.lexeme.LexKind.{LexKind}
use Rattle.sql_lex.specs.declared.lexeme.LexKind.TheVariants.{Word, Number, Literal, Sign}
use Rattle.sql_lex.specs.declared.lexeme.Lexeme.{Lexeme}
use Rattle.dl_base.specs.Blank.{is_blank}
use Rattle.sql_lex.specs.Spelling.{begins, Spells, signs, IsFront}
use Rattle.sql_lex.specs.Scan.{Front, front, with_lexeme, place_front, scan}
use Rattle.sql_lex.specs.Lexes.{LexesTo, Blanks, Lexes, NoFront, BadByte, IsBad}
use Rattle.sql_lex.proofs.Bools.{cond_true, cond_false, and_left, and_right}
use Rattle.sql_lex.proofs.Words.{name_is}
use Rattle.sql_lex.proofs.Found.{Found}
use Rattle.sql_lex.proofs.Fronts.{front_found, front_again}

-- skipping bytes
pub scan_skip : (k at : ℕ) (bs : List ℕ) → scan k at bs ≡ scan 0 (at + k) (drop k bs)
scan_skip zero at bs = ap (λ n. scan 0 n bs) (let e : at ≡ at + 0 = omega arith in e)
scan_skip (suc k) at [] = refl
scan_skip (suc k) at (b ∷ bs) = scan_skip k (suc at) bs ∙ ap (λ n. scan 0 n (drop k bs)) (let e : suc at + k ≡ at + suc k = omega arith in e)

-- a lexeme has a first byte
no_sign : (ss : List (List ℕ)) (k : ℕ) → slice_get ss k ≡ Some [] → list_all (begins (λ _. true)) ss ≡ true → ⊥
no_sign [] k at h = cc
no_sign (s ∷ ss) zero at h = let e : s ≡ [] = cc in let f : begins (λ _. true) [] ≡ true = ap (begins (λ _. true)) (sym e) ∙ and_left (begins (λ _. true) s) _ h in cc
no_sign (s ∷ ss) (suc k) at h = no_sign ss k at (and_right (begins (λ _. true) s) _ h)

pub no_empty : (kind : LexKind) → Spells kind [] → ⊥
no_empty (Word w) s = let e = (name_is [] s.0).1 in cc
no_empty (Number z) s = let e = s.0.0 in omega arith
no_empty (Literal t) s = let e = s.1 in cc
no_empty (Sign k) s = no_sign signs k s refl

-- what follows a lexeme
after_front : (kind : LexKind) (b : ℕ) (bs body rest : List ℕ) (at : ℕ) → b ∷ bs ≡ body ++ rest → IsFront kind body rest → scan (length body - 1) (suc at) bs ≡ scan 0 (at + length body) rest
after_front kind b bs [] rest at e h = absurd (no_empty kind h.0)
after_front kind b bs (c ∷ body) rest at e h =
    let tail : bs ≡ body ++ rest = cc in
    let n : suc (length body) - 1 ≡ length body = omega arith in
    let m : suc at + length body ≡ at + suc (length body) = omega arith in
    ap (λ k. scan k (suc at) bs) n ∙ scan_skip (length body) (suc at) bs ∙ (λ i. scan 0 (m i) (drop (length body) (tail i))) ∙ ap (scan 0 (at + suc (length body))) (drop_at body rest (length body) refl)

-- ---- one more blank, or one more lexeme, before lexemes

-- what may have one more blank before it
abbrev TakesBlank : (ℕ → List ℕ → Type 0) → Type 0
TakesBlank Last = (at b : ℕ) (bs : List ℕ) → is_blank b ≡ true → Last (suc at) bs → Last at (b ∷ bs)

blanks_take : TakesBlank Blanks
blanks_take at b bs e h = rw e h

bad_takes : (bad : ℕ) → TakesBlank (BadByte bad)
bad_takes bad at b bs e (gap, c, rest, parts, blank, other, place, none) = (b ∷ gap, c, rest, ap (λ (y : List ℕ). b ∷ y) parts, rw e blank, other, omega (arith, place), none)

blank_more : (Last : ℕ → List ℕ → Type 0) → TakesBlank Last → (at b : ℕ) (bs : List ℕ) (xs : List Lexeme) → is_blank b ≡ true → LexesTo Last (suc at) bs xs → LexesTo Last at (b ∷ bs) xs
blank_more Last takes at b bs [] e h = takes at b bs e h
blank_more Last takes at b bs (x ∷ xs) e (gap, body, rest, parts, blank, is, begin, end, more) = (b ∷ gap, body, rest, ap (λ (y : List ℕ). b ∷ y) parts, rw e blank, is, omega (arith, begin), end, more)

pub blank_lexes : (at b : ℕ) (bs : List ℕ) (xs : List Lexeme) → is_blank b ≡ true → Lexes (suc at) bs xs → Lexes at (b ∷ bs) xs
blank_lexes = blank_more Blanks blanks_take

-- what a reading says
abbrev pub Says : ℕ → List ℕ → Result (List Lexeme) ℕ → Type 0
Says at bs (Ok xs) = Lexes at bs xs
Says at bs (Err bad) = (xs : List Lexeme) × LexesTo (BadByte bad) at bs xs

blank_says : (at b : ℕ) (bs : List ℕ) (r : Result (List Lexeme) ℕ) → is_blank b ≡ true → Says (suc at) bs r → Says at (b ∷ bs) r
blank_says at b bs (Ok xs) e h = blank_lexes at b bs xs e h
blank_says at b bs (Err bad) e (xs, h) = (xs, blank_more (BadByte bad) (bad_takes bad) at b bs xs e h)

lexeme_says : (kind : LexKind) (at : ℕ) (bs body rest : List ℕ) (r : Result (List Lexeme) ℕ) → bs ≡ body ++ rest → IsFront kind body rest → Says (at + length body) rest r → Says at bs (with_lexeme (record { kind = kind; begin = at; end = at + length body }) r)
lexeme_says kind at bs body rest (Ok xs) parts is h = ([], body, rest, parts, refl, is, omega arith, refl, h)
lexeme_says kind at bs body rest (Err bad) parts is h = (record { kind = kind; begin = at; end = at + length body } ∷ h.0, ([], body, rest, parts, refl, is, omega arith, refl, h.1))

-- ---- what is read is meant

scanned : (n : ℕ) (at : ℕ) (bs : List ℕ) → length bs ≤ n → Says at bs (scan 0 at bs)
scanned n at [] le = refl
scanned zero at (b ∷ bs) le = absurd (omega arith)
scanned (suc n) at (b ∷ bs) le = by_blank (is_blank b) refl (scanned n (suc at) bs (omega arith)) (λ k cs le. scanned n k cs le)
  where
    at_front : (f : Front) → is_blank b ≡ false → front (b ∷ bs) ≡ f → Found (b ∷ bs) f → ((k : ℕ) (cs : List ℕ) → length cs ≤ n → Says k cs (scan 0 k cs)) → Says at (b ∷ bs) (place_front f at (λ k. scan k (suc at) bs))
    at_front None e f found ih = ([], ([], b, bs, refl, refl, e, omega arith, λ kind body rest parts is. let g = front_again kind body rest is in let h : front (body ++ rest) ≡ None = ap front (sym parts) ∙ f in cc))
    at_front (Some (kind, len)) e f (body, rest, parts, len-is, is) ih =
        let short : length rest ≤ n = not_longer body rest parts is in
        subst (λ l. Says at (b ∷ bs) (with_lexeme (record { kind = kind; begin = at; end = at + l }) (scan (l - 1) (suc at) bs))) len-is
        (subst (λ r. Says at (b ∷ bs) (with_lexeme (record { kind = kind; begin = at; end = at + length body }) r)) (sym (after_front kind b bs body rest at parts is)) (lexeme_says kind at (b ∷ bs) body rest (scan 0 (at + length body) rest) parts is (ih (at + length body) rest short)))
      where
        not_longer : (body rest : List ℕ) → b ∷ bs ≡ body ++ rest → IsFront kind body rest → length rest ≤ n
        not_longer [] rest parts is = absurd (no_empty kind is.0)
        not_longer (c ∷ body) rest parts is = omega (arith, ap length parts, length-append (c ∷ body) rest)

    by_blank : (t : Bool) → is_blank b ≡ t → Says (suc at) bs (scan 0 (suc at) bs) → ((k : ℕ) (cs : List ℕ) → length cs ≤ n → Says k cs (scan 0 k cs)) → Says at (b ∷ bs) (cond t (scan 0 (suc at) bs) (place_front (front (b ∷ bs)) at (λ k. scan k (suc at) bs)))
    by_blank true e h ih = blank_says at b bs (scan 0 (suc at) bs) e h
    by_blank false e h ih = at_front (front (b ∷ bs)) e refl (front_found (b ∷ bs)) ih

pub scan_says : (bs : List ℕ) → Says 1 bs (scan 0 1 bs)
scan_says bs = scanned (length bs) 1 bs (omega arith)

-- ---- what is meant is read

skip_blanks : (gap : List ℕ) (at : ℕ) (bs : List ℕ) → list_all is_blank gap ≡ true → scan 0 at (gap ++ bs) ≡ scan 0 (at + length gap) bs
skip_blanks [] at bs h = ap (λ n. scan 0 n bs) (let e : at ≡ at + 0 = omega arith in e)
skip_blanks (b ∷ gap) at bs h =
    cond_true (is_blank b) _ _ (and_left (is_blank b) (list_all is_blank gap) h) ∙ skip_blanks gap (suc at) bs (and_right (is_blank b) (list_all is_blank gap) h) ∙ ap (λ n. scan 0 n bs) (let e : suc at + length gap ≡ at + suc (length gap) = omega arith in e)

-- a blank begins no lexeme
blank_fails : (b : ℕ) (bs : List ℕ) → is_blank b ≡ true → front (b ∷ bs) ≡ None
unfolding front
blank_fails b bs e = by_or (b == 32) (b == 9) refl refl e
  where
    by_or : (p q : Bool) → (b == 32) ≡ p → (b == 9) ≡ q → (p || q) ≡ true → front (b ∷ bs) ≡ None
    by_or true q is _ e = subst (λ x. front (x ∷ bs) ≡ None) (sym (eqb-true b 32 is)) refl
    by_or false true _ is e = subst (λ x. front (x ∷ bs) ≡ None) (sym (eqb-true b 9 is)) refl
    by_or false false _ _ e = absurd cc

no_blank : (kind : LexKind) (body rest : List ℕ) (b : ℕ) (bs : List ℕ) → is_blank b ≡ true → b ∷ bs ≡ body ++ rest → IsFront kind body rest → ⊥
no_blank kind body rest b bs e parts is =
    let f : front (b ∷ bs) ≡ Some (kind, length body) = ap front parts ∙ front_again kind body rest is in
    let g = blank_fails b bs e in cc

scan_front : (kind : LexKind) (at : ℕ) (body rest : List ℕ) → IsFront kind body rest → scan 0 at (body ++ rest) ≡ with_lexeme (record { kind = kind; begin = at; end = at + length body }) (scan 0 (at + length body) rest)
scan_front kind at [] rest is = absurd (no_empty kind is.0)
scan_front kind at (b ∷ body) rest is =
    by_blank (is_blank b) refl ∙ ap (λ f. place_front f at (λ k. scan k (suc at) (body ++ rest))) (front_again kind (b ∷ body) rest is)
    ∙ ap (with_lexeme (record { kind = kind; begin = at; end = at + suc (length body) })) (after_front kind b (body ++ rest) (b ∷ body) rest at refl is)
  where
    by_blank : (t : Bool) → is_blank b ≡ t → cond (is_blank b) (scan 0 (suc at) (body ++ rest)) (place_front (front (b ∷ (body ++ rest))) at (λ k. scan k (suc at) (body ++ rest))) ≡ place_front (front (b ∷ (body ++ rest))) at (λ k. scan k (suc at) (body ++ rest))
    by_blank true e = absurd (no_blank kind (b ∷ body) rest b (body ++ rest) e refl is)
    by_blank false e = cond_false (is_blank b) _ _ e

lexeme_is : (x : Lexeme) (b e : ℕ) → x.begin ≡ b → x.end ≡ e → record { kind = x.kind; begin = b; end = e } ≡ x
lexeme_is x b e p q = (λ i. record { kind = x.kind; begin = sym p i; end = sym q i })

-- the lexemes so far, and those that are still to come
abbrev pub behind : List Lexeme → Result (List Lexeme) ℕ → Result (List Lexeme) ℕ
behind xs (Ok ys) = Ok (xs ++ ys)
behind xs (Err k) = Err k

with_behind : (x : Lexeme) (xs : List Lexeme) (r : Result (List Lexeme) ℕ) → with_lexeme x (behind xs r) ≡ behind (x ∷ xs) r
with_behind x xs (Ok ys) = refl
with_behind x xs (Err k) = refl

none_behind : (r : Result (List Lexeme) ℕ) → r ≡ behind [] r
none_behind (Ok ys) = refl
none_behind (Err k) = refl

pub one_behind : (xs : List Lexeme) (x : Lexeme) (r : Result (List Lexeme) ℕ) → behind (xs ++ x ∷ []) r ≡ behind xs (with_lexeme x r)
one_behind xs x (Ok ys) = ap (λ (zs : List Lexeme). Ok zs) (append_assoc xs (x ∷ []) ys)
one_behind xs x (Err k) = refl

abbrev lexemes : List Lexeme → Result (List Lexeme) ℕ
lexemes xs = Ok xs

abbrev bad_at : ℕ → Result (List Lexeme) ℕ
bad_at k = Err k

scan_to : (Last : ℕ → List ℕ → Type 0) (r : Result (List Lexeme) ℕ) → ((at : ℕ) (bs : List ℕ) → Last at bs → scan 0 at bs ≡ r) → (xs : List Lexeme) (at : ℕ) (bs : List ℕ) → LexesTo Last at bs xs → scan 0 at bs ≡ behind xs r
scan_to Last r last [] at bs h = last at bs h ∙ none_behind r
scan_to Last r last (x ∷ xs) at bs (gap, body, rest, parts, blank, is, begin, end, more) =
    let e : x.end ≡ at + length gap + length body = omega (arith, begin, end) in
    ap (scan 0 at) parts ∙ skip_blanks gap at (body ++ rest) blank ∙ scan_front x.kind (at + length gap) body rest is
    ∙ ap (λ n. with_lexeme (record { kind = x.kind; begin = at + length gap; end = at + length gap + length body }) (scan 0 n rest)) (sym e)
    ∙ ap (with_lexeme (record { kind = x.kind; begin = at + length gap; end = at + length gap + length body })) (scan_to Last r last xs x.end rest more)
    ∙ ap (λ y. with_lexeme y (behind xs r)) (lexeme_is x (at + length gap) (at + length gap + length body) begin e)
    ∙ with_behind x xs r

blanks_scan : (at : ℕ) (bs : List ℕ) → Blanks at bs → scan 0 at bs ≡ Ok []
blanks_scan at bs h = ap (scan 0 at) (sym (append-nil bs)) ∙ skip_blanks bs at [] h

pub scan_lexed : (xs : List Lexeme) (bs : List ℕ) → Lexes 1 bs xs → scan 0 1 bs ≡ Ok xs
scan_lexed xs bs h = scan_to Blanks (Ok []) blanks_scan xs 1 bs h ∙ ap (λ (zs : List Lexeme). Ok zs) (append-nil xs)

none_front : (b : ℕ) (rest : List ℕ) → NoFront (b ∷ rest) → front (b ∷ rest) ≡ None
none_front b rest no-front = by_front (front (b ∷ rest)) (front_found (b ∷ rest))
  where
    by_front : (f : Front) → Found (b ∷ rest) f → f ≡ None
    by_front None found = refl
    by_front (Some f) found = absurd (no-front f.0 found.0 found.1 found.2 found.4)

bad_scan : (bad at : ℕ) (bs : List ℕ) → BadByte bad at bs → scan 0 at bs ≡ Err bad
bad_scan bad at bs (gap, b, rest, parts, blank, other, place, none) =
    ap (scan 0 at) parts ∙ skip_blanks gap at (b ∷ rest) blank ∙ cond_false (is_blank b) _ _ other
    ∙ ap (λ f. place_front f (at + length gap) (λ k. scan k (suc (at + length gap)) rest)) (none_front b rest none) ∙ ap (λ (k : ℕ). Err k) (sym place)

pub scan_bad : (bs : List ℕ) (bad : ℕ) → IsBad bs bad → scan 0 1 bs ≡ Err bad
scan_bad bs bad (xs, h) = scan_to (BadByte bad) (Err bad) (bad_scan bad) xs 1 bs h

-- ---- a text has one answer

pub one_reading : (bs : List ℕ) (xs ys : List Lexeme) → Lexes 1 bs xs → Lexes 1 bs ys → xs ≡ ys
one_reading bs xs ys l m = let e : lexemes xs ≡ lexemes ys = sym (scan_lexed xs bs l) ∙ scan_lexed ys bs m in cc

pub one_place : (bs : List ℕ) (j k : ℕ) → IsBad bs j → IsBad bs k → j ≡ k
one_place bs j k b c = let e : bad_at j ≡ bad_at k = sym (scan_bad bs j b) ∙ scan_bad bs k c in cc

pub never_both : (bs : List ℕ) (xs : List Lexeme) (k : ℕ) → Lexes 1 bs xs → IsBad bs k → ⊥
never_both bs xs k l b = let e : lexemes xs ≡ bad_at k = sym (scan_lexed xs bs l) ∙ scan_bad bs k b in cc

pub some_answer : (bs : List ℕ) → ((xs : List Lexeme) × Lexes 1 bs xs) ⊎ ((k : ℕ) × IsBad bs k)
some_answer bs = by_answer (scan 0 1 bs) (scan_says bs)
  where
    by_answer : (r : Result (List Lexeme) ℕ) → Says 1 bs r → ((xs : List Lexeme) × Lexes 1 bs xs) ⊎ ((k : ℕ) × IsBad bs k)
    by_answer (Ok xs) h = inl (xs, h)
    by_answer (Err k) h = inr (k, h)
