-- Literals: what is read between quotes is spelled so, and what is spelled so is read.
use Rattle.std.proofs.Common.{◌≡◌, ℕ, suc, Bool, true, false, cond, ◌==◌, List, [], ◌∷◌, ◌++◌, length, Option, Some, None, refl, sym, ap, ◌∙◌, subst}
use Rattle.std.specs.List.{list_all}
use Rattle.std.proofs.lemmas.Bool.{eqb-true}
use Rattle.sql_lex.specs.declared.lexeme.LexKind.TheVariants.{Literal}
use Rattle.sql_lex.specs.Spelling.{is_literal_byte, doubled, begins}
use Rattle.sql_lex.specs.Scan.{with_byte, one_longer, literal_text, literal_front, front}
use Rattle.sql_lex.proofs.Bools.{and_left, and_right}
use Rattle.sql_lex.proofs.Found.{Found}

-- what the text of a literal was read from, behind its first quote
pub record Quoted (bs t : List ℕ) (n : ℕ) : Type 0 where
  pub rest : List ℕ
  pub parts : bs ≡ (doubled t ++ 39 ∷ []) ++ rest
  pub len : length (doubled t ++ 39 ∷ []) ≡ n
  pub fine : list_all is_literal_byte t ≡ true
  pub ends : begins (λ b. b == 39) rest ≡ false

-- the same, with the quote that may be its end before the bytes
abbrev pub QuotedAt : Bool → List ℕ → Option (List ℕ × ℕ) → Type 0
QuotedAt q bs None = Unit {0}
QuotedAt false bs (Some t) = Quoted bs t.0 t.1
QuotedAt true bs (Some t) = Quoted (39 ∷ bs) t.0 (suc t.1)

quoted_if : (q : Bool) (bs : List ℕ) (t : Bool) (x y : Option (List ℕ × ℕ)) → (t ≡ true → QuotedAt q bs x) → (t ≡ false → QuotedAt q bs y) → QuotedAt q bs (cond t x y)
quoted_if q bs true x y h k = h refl
quoted_if q bs false x y h k = k refl

pub is_quote : (b : ℕ) → (b == 39) ≡ true → b ≡ 39
is_quote b e = eqb-true b 39 e

doubled_other : (b : ℕ) (t : List ℕ) → (b == 39) ≡ false → doubled (b ∷ t) ≡ b ∷ doubled t
doubled_other b t e = rw e refl

more_quoted : (b : ℕ) (bs : List ℕ) (o : Option (List ℕ × ℕ)) → (b == 39) ≡ false → is_literal_byte b ≡ true → QuotedAt false bs o → QuotedAt false (b ∷ bs) (with_byte b o)
more_quoted b bs None e fine q = tt
more_quoted b bs (Some t) e fine q = record {
  rest = q.rest;
  parts = ap (λ (x : List ℕ). b ∷ x) q.parts ∙ ap (λ (x : List ℕ). (x ++ 39 ∷ []) ++ q.rest) (sym (doubled_other b t.0 e));
  len = ap (λ (x : List ℕ). length (x ++ 39 ∷ [])) (doubled_other b t.0 e) ∙ ap suc q.len;
  fine = rw fine q.fine;
  ends = q.ends;
}

quote_quoted : (bs : List ℕ) (o : Option (List ℕ × ℕ)) → QuotedAt false bs o → QuotedAt true (39 ∷ bs) (with_byte 39 o)
quote_quoted bs None q = tt
quote_quoted bs (Some t) q = record { rest = q.rest; parts = ap (λ (x : List ℕ). 39 ∷ 39 ∷ x) q.parts; len = ap (λ n. suc (suc n)) q.len; fine = q.fine; ends = q.ends }

closed_quoted : (b : ℕ) (bs : List ℕ) (o : Option (List ℕ × ℕ)) → b ≡ 39 → QuotedAt true bs o → QuotedAt false (b ∷ bs) (one_longer o)
closed_quoted b bs None e q = tt
closed_quoted b bs (Some t) e q = record { rest = q.rest; parts = ap (λ (x : ℕ). x ∷ bs) e ∙ q.parts; len = q.len; fine = q.fine; ends = q.ends }

pub literal_quoted : (q : Bool) (bs : List ℕ) → QuotedAt q bs (literal_text q bs)
literal_quoted false [] = tt
literal_quoted true [] = record { rest = []; parts = refl; len = refl; fine = refl; ends = refl }
literal_quoted false (b ∷ bs) =
    quoted_if false (b ∷ bs) (b == 39) _ _ (λ e. closed_quoted b bs (literal_text true bs) (is_quote b e) (literal_quoted true bs))
    (λ e. quoted_if false (b ∷ bs) (is_literal_byte b) _ None (λ fine. more_quoted b bs (literal_text false bs) e fine (literal_quoted false bs)) (λ _. tt))
literal_quoted true (b ∷ bs) =
    quoted_if true (b ∷ bs) (b == 39) _ _ (λ e. subst (λ x. QuotedAt true (x ∷ bs) (with_byte 39 (literal_text false bs))) (sym (is_quote b e)) (quote_quoted bs (literal_text false bs) (literal_quoted false bs)))
    (λ e. record { rest = b ∷ bs; parts = refl; len = refl; fine = refl; ends = e })

pub literal_found : (bs : List ℕ) (o : Option (List ℕ × ℕ)) → QuotedAt false bs o → Found (39 ∷ bs) (literal_front o)
literal_found bs None q = tt
literal_found bs (Some t) q = (39 ∷ (doubled t.0 ++ 39 ∷ []), q.rest, ap (λ (x : List ℕ). 39 ∷ x) q.parts, ap suc q.len, ((q.fine, refl), q.ends))

-- what a literal's text is read as
literal_again : (t rest : List ℕ) → list_all is_literal_byte t ≡ true → begins (λ b. b == 39) rest ≡ false → literal_text false ((doubled t ++ 39 ∷ []) ++ rest) ≡ Some (t, length (doubled t ++ 39 ∷ []))
literal_again [] rest fine ends = closing rest ends
  where
    closing : (rest : List ℕ) → begins (λ b. b == 39) rest ≡ false → one_longer (literal_text true rest) ≡ Some ([], 1)
    closing [] e = refl
    closing (c ∷ rest) e = rw e refl
literal_again (b ∷ t) rest fine ends = again_by b t rest (b == 39) refl (and_left (is_literal_byte b) (list_all is_literal_byte t) fine) (literal_again t rest (and_right (is_literal_byte b) (list_all is_literal_byte t) fine) ends)
  where
    again_by : (b : ℕ) (t rest : List ℕ) (q : Bool) → (b == 39) ≡ q → is_literal_byte b ≡ true → literal_text false ((doubled t ++ 39 ∷ []) ++ rest) ≡ Some (t, length (doubled t ++ 39 ∷ [])) → literal_text false ((cond q (39 ∷ 39 ∷ doubled t) (b ∷ doubled t) ++ 39 ∷ []) ++ rest) ≡ Some (b ∷ t, length (cond q (39 ∷ 39 ∷ doubled t) (b ∷ doubled t) ++ 39 ∷ []))
    again_by b t rest true e fine ih = ap (λ (o : Option (List ℕ × ℕ)). one_longer (with_byte 39 o)) ih ∙ ap (λ x. Some (x ∷ t, suc (suc (length (doubled t ++ 39 ∷ []))))) (sym (is_quote b e))
    again_by b t rest false e fine ih = rw (e, fine) (ap (with_byte b) ih)

pub literal_front_again : (t rest : List ℕ) → list_all is_literal_byte t ≡ true → begins (λ b. b == 39) rest ≡ false → front ((39 ∷ (doubled t ++ 39 ∷ [])) ++ rest) ≡ Some (Literal t, length (39 ∷ (doubled t ++ 39 ∷ [])))
unfolding front
literal_front_again t rest fine ends = ap literal_front (literal_again t rest fine ends)
