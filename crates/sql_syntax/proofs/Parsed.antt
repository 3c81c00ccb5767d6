-- What an answer says, by the laws of reading.
use Rattle.std.proofs.Common.{◌≡◌, ℕ, List, Result, Ok, Err, refl, sym, ap, ◌∙◌, subst}
use Rattle.dl_base.specs.declared.statement.Stmt.{Stmt}
use Rattle.sql_lex.specs.declared.lexeme.Lexeme.{Lexeme}
use Rattle.sql_lex.specs.Lexes.{Lexes, IsBad}
use Rattle.sql_grammar.specs.declared.terminal.Terminal.{Terminal}
use Rattle.sql_grammar.specs.Readers.{whole_at}
use Rattle.sql_grammar.specs.Lang.{IsFaultOf}
use Rattle.sql_grammar.specs.Statements.{Statement}
use Rattle.sql_grammar.specs.Reading.{statement_at}
use Rattle.sql_grammar.proofs.Whole.{IsExactOf, exact_of, whole_reads, same_fault}
use Rattle.sql_grammar.proofs.Statements.{AtEnd, has_statement, reads_statement}
use Rattle.sql_syntax.specs.declared.parser.ParseFault.{ParseFault}
use Rattle.sql_syntax.specs.declared.parser.ParseFault.TheVariants as fault
use Rattle.sql_grammar.specs.Meaning.{terminals}
use Rattle.sql_syntax.specs.Parsing.{place_in, Parses, Agrees, AnswersParsing}

pub exact : (ws : List Terminal) → IsExactOf Statement ws (whole_at statement_at ws)
exact ws = exact_of statement_at Statement AtEnd ws has_statement reads_statement refl

pub is_exact : (text : List ℕ) (xs : List Lexeme) (r : Result Stmt ParseFault) → Lexes 1 text xs → AnswersParsing text xs r (whole_at statement_at (terminals xs)) → Parses text r
is_exact text xs (Ok s) l h = (xs, l, subst (IsExactOf Statement (terminals xs)) h (exact (terminals xs)))
is_exact text xs (Err (fault.BadChar p)) l h = absurd h
is_exact text xs (Err (fault.Syntax p)) l h = (xs, h.0, l, subst (IsExactOf Statement (terminals xs)) h.1 (exact (terminals xs)), h.2)
is_exact text xs (Err fault.Memory) l h = tt

-- all of the text's lexemes are these, and no byte of it is bad
abbrev pub Alone : List ℕ → List Lexeme → Type 0
Alone text xs = ((ys : List Lexeme) → Lexes 1 text ys → xs ≡ ys) × ((k : ℕ) → IsBad text k → ⊥)

same_ok : (text : List ℕ) (xs ys : List Lexeme) (s : Stmt) → ys ≡ xs → Statement s (terminals ys) → whole_at statement_at (terminals xs) ≡ Ok s
same_ok text xs ys s same says = whole_reads statement_at Statement AtEnd (terminals xs) s reads_statement refl (subst (λ (zs : List Lexeme). Statement s (terminals zs)) same says)

same_err : (xs ys : List Lexeme) (j k : ℕ) → ys ≡ xs → IsFaultOf Statement (terminals ys) j → whole_at statement_at (terminals xs) ≡ Err k → j ≡ k
same_err xs ys j k same f e =
    same_fault Statement (terminals xs) j k (subst (λ (zs : List Lexeme). IsFaultOf Statement (terminals zs) j) same f) (subst (IsExactOf Statement (terminals xs)) e (exact (terminals xs)))

pub is_only : (text : List ℕ) (xs : List Lexeme) (r : Result Stmt ParseFault) → Alone text xs → AnswersParsing text xs r (whole_at statement_at (terminals xs)) → (q : Result Stmt ParseFault) → Parses text q → Agrees r q
is_only text xs (Err fault.Memory) alone h q p = tt
is_only text xs (Ok s) alone h (Ok t) p = let e : Ok s ≡ Ok t = sym h ∙ same_ok text xs p.0 t (sym (alone.0 p.0 p.1)) p.2 in cc
is_only text xs (Ok s) alone h (Err (fault.BadChar k)) p = absurd (alone.1 k p)
is_only text xs (Ok s) alone h (Err (fault.Syntax k)) p =
    let same : p.0 ≡ xs = sym (alone.0 p.0 p.2) in
    absurd ((subst (λ (zs : List Lexeme). IsFaultOf Statement (terminals zs) p.1) same p.3).none s (subst (IsExactOf Statement (terminals xs)) h (exact (terminals xs))))
is_only text xs (Ok s) alone h (Err fault.Memory) p = tt
is_only text xs (Err (fault.BadChar j)) alone h q p = absurd h
is_only text xs (Err (fault.Syntax j)) alone h (Ok t) p = let e : Err h.0 ≡ Ok t = sym h.1 ∙ same_ok text xs p.0 t (sym (alone.0 p.0 p.1)) p.2 in absurd cc
is_only text xs (Err (fault.Syntax j)) alone h (Err (fault.BadChar k)) p = absurd (alone.1 k p)
is_only text xs (Err (fault.Syntax j)) alone h (Err (fault.Syntax k)) p =
    let same : p.0 ≡ xs = sym (alone.0 p.0 p.2) in
    let number : p.1 ≡ h.0 = same_err xs p.0 p.1 h.0 same p.3 h.1 in
    let places : j ≡ k = h.2 ∙ (λ i. place_in text (sym same i) (sym number i)) ∙ sym p.4 in
    ap (λ (n : ℕ). Err (fault.Syntax n)) places
is_only text xs (Err (fault.Syntax j)) alone h (Err fault.Memory) p = tt

-- a bad byte is the only answer
pub is_bad_only : (text : List ℕ) (j : ℕ) → ((ys : List Lexeme) → Lexes 1 text ys → ⊥) → ((k : ℕ) → IsBad text k → j ≡ k) → (q : Result Stmt ParseFault) → Parses text q → Agrees (Err (fault.BadChar j)) q
is_bad_only text j none alone (Ok t) p = absurd (none p.0 p.1)
is_bad_only text j none alone (Err (fault.BadChar k)) p = ap (λ (n : ℕ). Err (fault.BadChar n)) (alone k p)
is_bad_only text j none alone (Err (fault.Syntax k)) p = absurd (none p.0 p.2)
is_bad_only text j none alone (Err fault.Memory) p = tt
