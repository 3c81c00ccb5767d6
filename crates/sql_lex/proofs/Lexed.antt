-- What a result says by the laws of reading.
use Rattle.std.proofs.Common.{◌≡◌, ℕ, ◌<◌, ◌≤◌, List, [], ◌∷◌, length, Option, Some, None, Result, Ok, Err, subst, sym, ap, arith, length-append}
use Rattle.std.specs.Prelude.{IfOk, IfSome}
use Rattle.sql_lex.specs.declared.lexeme.LexKind.{LexKind}
use Rattle.sql_lex.specs.declared.lexeme.Lexeme.{Lexeme}
use Rattle.sql_lex.specs.declared.lexeme.LexFault.{LexFault}
use Rattle.sql_lex.specs.declared.lexeme.LexFault.TheVariants.{BadChar, Memory}
use Rattle.sql_lex.specs.Scan.{front, scan}
use Rattle.sql_lex.specs.Lexes.{Lexes, IsBad, AnswersLexing, IfBadChar}
use Rattle.sql_lex.proofs.Found.{Found}
use Rattle.sql_lex.proofs.Fronts.{front_found}
use Rattle.sql_lex.proofs.Scans.{Says, scan_says, scan_lexed, scan_bad, no_empty}

pub is_found : (bs : List ℕ) (r : Result (List Lexeme) LexFault) → AnswersLexing r (scan 0 1 bs) → IfOk r (λ xs. Lexes 1 bs xs)
is_found bs (Ok xs) g = subst (Says 1 bs) g (scan_says bs)
is_found bs (Err e) g = tt

pub is_bad : (bs : List ℕ) (r : Result (List Lexeme) LexFault) → AnswersLexing r (scan 0 1 bs) → IfBadChar r (λ k. IsBad bs k)
is_bad bs (Ok xs) g = tt
is_bad bs (Err (BadChar k)) g = subst (Says 1 bs) g (scan_says bs)
is_bad bs (Err Memory) g = tt

pub is_only : (bs : List ℕ) (r : Result (List Lexeme) LexFault) → AnswersLexing r (scan 0 1 bs) → (xs : List Lexeme) → Lexes 1 bs xs → AnswersLexing r (Ok xs)
is_only bs r g xs l = subst (AnswersLexing r) (scan_lexed xs bs l) g

pub is_bad_only : (bs : List ℕ) (r : Result (List Lexeme) LexFault) → AnswersLexing r (scan 0 1 bs) → (k : ℕ) → IsBad bs k → AnswersLexing r (Err k)
is_bad_only bs r g k b = subst (AnswersLexing r) (scan_bad bs k b) g

pub len_within : (bs : List ℕ) (kind : LexKind) (len : ℕ) → Found bs (Some (kind, len)) → (0 < len) × (len ≤ length bs)
len_within bs kind len ([], rest, parts, n, is) = absurd (no_empty kind is.0)
len_within bs kind len (b ∷ body, rest, parts, n, is) = (omega (arith, n), omega (arith, n, ap length parts, length-append (b ∷ body) rest))

front_within : (bs : List ℕ) (f : Option (LexKind × ℕ)) → f ≡ front bs → IfSome f (λ f. (0 < f.1) × (f.1 ≤ length bs))
front_within bs None e = tt
front_within bs (Some f) e = len_within bs f.0 f.1 (subst (Found bs) (sym e) (front_found bs))

pub found_within : {E : Type 0} (bs : List ℕ) (r : Result (Option (LexKind × ℕ)) E) → IfOk r (λ f. f ≡ front bs) → IfOk r (λ f. IfSome f (λ f. (0 < f.1) × (f.1 ≤ length bs)))
found_within bs (Ok f) h = front_within bs f h
found_within bs (Err e) h = tt
