-- What is joined is lexed as what was joined.
use Rattle.std.proofs.Common.{◌≡◌, ℕ, suc, ◌+◌, Bool, true, false, ◌&&◌, ◌||◌, cond, ◌==◌, List, [], ◌∷◌, ◌++◌, length, map, Some, refl, sym, ap, subst, arith}
use Rattle.std.proofs.lemmas.List.{append-nil}
use Rattle.std.proofs.lemmas.Bool.{eqb-true}
use Rattle.std.specs.List.{slice_get}
use Rattle.sql_lex.specs.declared.lexeme.LexKind.{LexKind}
use Rattle.sql_lex.specs.declared.lexeme.LexKind.TheVariants.{Word, Number, Literal, Sign}
use Rattle.sql_lex.specs.Spelling.{signs, begins, Spells, goes_on}
use Rattle.sql_lex.specs.Joined.{Piece, is_dot, joined, is_word, ArePieces, LexesAs}
use Rattle.sql_lex.proofs.Scans.{blank_lexes}

and_false : (a b : Bool) → b ≡ false → (a && b) ≡ false
and_false true b e = e
and_false false b e = refl

-- a blank makes no lexeme longer
stops_at_blank : (kind : LexKind) → goes_on kind 32 ≡ false
stops_at_blank (Word w) = refl
stops_at_blank (Number z) = refl
stops_at_blank (Literal t) = refl
stops_at_blank (Sign k) = rw (and_false (k == 11) false refl, and_false (k == 13) false refl) refl

is_third : (k : ℕ) → (k == 3) ≡ true → k ≡ 3
is_third k e = eqb-true k 3 e

-- a dot makes no word longer, and nothing makes a dot longer
stops_at_dot : (x y : Piece) (rest : List ℕ) → is_dot y.0 ≡ true → is_word x.0 ≡ true → Spells y.0 y.1 → begins (goes_on x.0) (y.1 ++ rest) ≡ false
stops_at_dot (Word w, bs) (Sign k, body) rest d w-is s =
    let dot : Some (46 ∷ []) ≡ Some body = subst (λ k. slice_get signs k ≡ Some body) (is_third k d) s in
    let same : body ≡ 46 ∷ [] = cc in
    rw same refl
stops_at_dot (Word w, bs) (Word v, body) rest d w-is s = absurd cc
stops_at_dot (Word w, bs) (Number z, body) rest d w-is s = absurd cc
stops_at_dot (Word w, bs) (Literal t, body) rest d w-is s = absurd cc
stops_at_dot (Number z, bs) y rest d w-is s = absurd cc
stops_at_dot (Literal t, bs) y rest d w-is s = absurd cc
stops_at_dot (Sign k, bs) y rest d w-is s = absurd cc

third_stops : (rest : List ℕ) → begins (goes_on (Sign 3)) rest ≡ false
third_stops [] = refl
third_stops (b ∷ rest) = refl

dot_stops : (kind : LexKind) (rest : List ℕ) → is_dot kind ≡ true → begins (goes_on kind) rest ≡ false
dot_stops (Sign k) rest d = subst (λ k. begins (goes_on (Sign k)) rest ≡ false) (sym (is_third k d)) (third_stops rest)
dot_stops (Word w) rest d = absurd cc
dot_stops (Number z) rest d = absurd cc
dot_stops (Literal t) rest d = absurd cc

-- a piece and what follows it
piece_before : (x : Piece) (at : ℕ) (rest : List ℕ) (ks : List LexKind) → Spells x.0 x.1 → begins (goes_on x.0) rest ≡ false → LexesAs (at + length x.1) rest ks → LexesAs at (x.1 ++ rest) (x.0 ∷ ks)
piece_before x at rest ks s ends l =
    (record { kind = x.0; begin = at; end = at + length x.1 } ∷ l.0, ([], x.1, rest, refl, refl, (s, ends), omega arith, refl, l.1), ap (λ (y : List LexKind). x.0 ∷ y) l.2)

front_of_joined : (y : Piece) (ys : List Piece) → (rest : List ℕ) × (joined (y ∷ ys) ≡ y.1 ++ rest)
front_of_joined y [] = ([], sym (append-nil y.1))
front_of_joined y (z ∷ zs) = by_test (is_dot y.0 || is_dot z.0)
  where
    by_test : (t : Bool) → (rest : List ℕ) × (cond t (y.1 ++ joined (z ∷ zs)) (y.1 ++ 32 ∷ joined (z ∷ zs)) ≡ y.1 ++ rest)
    by_test true = (joined (z ∷ zs), refl)
    by_test false = (32 ∷ joined (z ∷ zs), refl)

first_spells : (y : Piece) (ys : List Piece) → ArePieces (y ∷ ys) → Spells y.0 y.1
first_spells y [] h = h
first_spells y (z ∷ zs) h = h.0

pub joined_lexes : (xs : List Piece) (at : ℕ) → ArePieces xs → LexesAs at (joined xs) (map (λ x. x.0) xs)
joined_lexes [] at h = ([], refl, refl)
joined_lexes (x ∷ []) at h = subst (λ bs. LexesAs at bs (x.0 ∷ [])) (append-nil x.1) (piece_before x at [] [] h refl ([], refl, refl))
joined_lexes (x ∷ y ∷ ys) at h = by_test (is_dot x.0 || is_dot y.0) refl (joined_lexes (y ∷ ys) (at + length x.1) h.2) (joined_lexes (y ∷ ys) (suc (at + length x.1)) h.2)
  where
    tight : (p q : Bool) → is_dot x.0 ≡ p → is_dot y.0 ≡ q → (p || q) ≡ true → begins (goes_on x.0) (joined (y ∷ ys)) ≡ false
    tight true q e f g = dot_stops x.0 (joined (y ∷ ys)) e
    tight false true e f g = let r = front_of_joined y ys in subst (λ bs. begins (goes_on x.0) bs ≡ false) (sym r.1) (stops_at_dot x y r.0 f (h.1 f) (first_spells y ys h.2))
    tight false false e f g = absurd cc

    by_test : (t : Bool) → (is_dot x.0 || is_dot y.0) ≡ t → LexesAs (at + length x.1) (joined (y ∷ ys)) (map (λ x. x.0) (y ∷ ys)) → LexesAs (suc (at + length x.1)) (joined (y ∷ ys)) (map (λ x. x.0) (y ∷ ys)) → LexesAs at (cond t (x.1 ++ joined (y ∷ ys)) (x.1 ++ 32 ∷ joined (y ∷ ys))) (x.0 ∷ map (λ x. x.0) (y ∷ ys))
    by_test true e l m = piece_before x at (joined (y ∷ ys)) (map (λ x. x.0) (y ∷ ys)) h.0 (tight (is_dot x.0) (is_dot y.0) refl refl e) l
    by_test false e l m = piece_before x at (32 ∷ joined (y ∷ ys)) (map (λ x. x.0) (y ∷ ys)) h.0 (stops_at_blank x.0) (m.0, blank_lexes (at + length x.1) 32 (joined (y ∷ ys)) m.0 refl m.1, m.2)
