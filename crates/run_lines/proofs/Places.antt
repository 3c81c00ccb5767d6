-- The places that a parser names are those of bytes of its text, or one past them.
use Rattle.std.proofs.Common.{◌≡◌, Err, subst, ℕ, zero, suc, ◌+◌, ◌≤◌, List, [], ◌∷◌, ◌++◌, length, ap, ◌∙◌, arith, length-append, slice_get}
use Rattle.sql_lex.specs.Lexes.{LexesTo, Lexes, BadByte, IsBad}
use Rattle.sql_lex.specs.declared.lexeme.Lexeme.{Lexeme}
use Rattle.sql_syntax.specs.Parsing.{IsSyntaxAt, Parses, begin_or}
use Rattle.sql_syntax.specs.declared.parser.ParseFault.{ParseFault}
use Rattle.sql_syntax.specs.declared.parser.ParseFault.TheVariants as faults

lengths : (bs gap body rest : List ℕ) → bs ≡ gap ++ (body ++ rest) → length bs ≡ length gap + (length body + length rest)
lengths bs gap body rest e = ap length e ∙ length-append gap (body ++ rest) ∙ ap (λ (n : ℕ). length gap + n) (length-append body rest)

bad_within : (bad at : ℕ) (bs : List ℕ) (xs : List Lexeme) → LexesTo (BadByte bad) at bs xs → bad ≤ at + length bs
bad_within bad at bs [] (gap, b, rest, e, blank, none, place, front) =
    let len : length bs ≡ length gap + length (b ∷ rest) = ap length e ∙ length-append gap (b ∷ rest) in
    omega (arith, place)
bad_within bad at bs (x ∷ xs) (gap, body, rest, e, blank, front, begins, ends, more) =
    let len = lengths bs gap body rest e in
    let behind = bad_within bad x.end rest xs more in
    omega (arith, begins, ends)

begin_within : (at end : ℕ) (bs : List ℕ) (xs : List Lexeme) (k : ℕ) → Lexes at bs xs → end ≡ at + length bs → begin_or (slice_get xs k) end ≤ end
begin_within at end bs [] k l same = omega arith
begin_within at end bs (x ∷ xs) zero (gap, body, rest, e, blank, front, begins, ends, more) same =
    let len = lengths bs gap body rest e in
    omega (arith, begins, same)
begin_within at end bs (x ∷ xs) (suc k) (gap, body, rest, e, blank, front, begins, ends, more) same =
    let len = lengths bs gap body rest e in
    let behind : end ≡ x.end + length rest = omega (arith, begins, ends, same) in
    begin_within x.end end rest xs k more behind

bad_place : (text : List ℕ) (k : ℕ) → IsBad text k → k ≤ length text + 1
bad_place text k (xs, l) = let h = bad_within k 1 text xs l in omega arith

syntax_place : (text : List ℕ) (k : ℕ) → IsSyntaxAt text k → k ≤ length text + 1
syntax_place text k (xs, j, lexes, fault, place) =
    let end : suc (length text) ≡ 1 + length text = omega arith in
    let h = begin_within 1 (suc (length text)) text xs j lexes end in
    omega (arith, place, h)

-- the same of the fault that a parser answers
pub bad_fault_place : (text : List ℕ) (fault : ParseFault) (k : ℕ) → Parses text (Err fault) → fault ≡ faults.BadChar k → k ≤ length text + 1
bad_fault_place text fault k answer is = bad_place text k (subst (λ (f : ParseFault). Parses text (Err f)) is answer)

pub syntax_fault_place : (text : List ℕ) (fault : ParseFault) (k : ℕ) → Parses text (Err fault) → fault ≡ faults.Syntax k → k ≤ length text + 1
syntax_fault_place text fault k answer is = syntax_place text k (subst (λ (f : ParseFault). Parses text (Err f)) is answer)
