-- Each text is answered something, and one thing.
use Rattle.std.proofs.Common.{◌≡◌, ◌≢◌, ℕ, List, Result, Ok, Err, ◌⊎◌, inl, inr, refl, sym, ap, subst}
use Rattle.dl_base.specs.declared.statement.Stmt.{Stmt}
use Rattle.sql_lex.specs.declared.lexeme.Lexeme.{Lexeme}
use Rattle.sql_lex.specs.Lexes.{Lexes, IsBad}
use Rattle.sql_grammar.specs.declared.terminal.Terminal.{Terminal}
use Rattle.sql_grammar.specs.Readers.{whole_at}
use Rattle.sql_grammar.specs.Lang.{IsFaultOf}
use Rattle.sql_grammar.specs.Statements.{Statement}
use Rattle.sql_grammar.specs.Reading.{statement_at}
use Rattle.sql_grammar.specs.Meaning.{terminals}
use Rattle.sql_syntax.specs.declared.parser.ParseFault.{ParseFault}
use Rattle.sql_syntax.specs.declared.parser.ParseFault.TheVariants as fault
use Rattle.sql_syntax.specs.Parsing.{place_in, Parses, Agrees, AnswersParsing}
use Rattle.sql_grammar.proofs.Whole.{IsExactOf, whole_reads, same_fault}
use Rattle.sql_grammar.proofs.Statements.{AtEnd, reads_statement}
use Rattle.sql_syntax.proofs.Parsed.{Alone, exact, is_exact, is_only, is_bad_only}

abbrev pub Answered : List ℕ → Type 0
Answered text = (r : Result Stmt ParseFault) × Parses text r × (r ≢ Err fault.Memory)

-- what is read of lexemes, as an answer
abbrev pub shown : List ℕ → List Lexeme → Result Stmt ℕ → Result Stmt ParseFault
shown text xs (Ok s) = Ok s
shown text xs (Err k) = Err (fault.Syntax (place_in text xs k))

is_shown : (text : List ℕ) (xs : List Lexeme) (read : Result Stmt ℕ) → AnswersParsing text xs (shown text xs read) read
is_shown text xs (Ok s) = refl
is_shown text xs (Err k) = (k, refl, refl)

is_answer : (text : List ℕ) (xs : List Lexeme) (read : Result Stmt ℕ) → shown text xs read ≢ Err fault.Memory
is_answer text xs (Ok s) e = absurd cc
is_answer text xs (Err k) e = absurd cc

abbrev pub read_of : List Lexeme → Result Stmt ℕ
read_of xs = whole_at statement_at (terminals xs)

by_lexemes : (text : List ℕ) (xs : List Lexeme) → Lexes 1 text xs → Answered text
by_lexemes text xs l = (shown text xs (read_of xs), is_exact text xs (shown text xs (read_of xs)) l (is_shown text xs (read_of xs)), is_answer text xs (read_of xs))

by_bad : (text : List ℕ) (k : ℕ) → IsBad text k → Answered text
by_bad text k b = (Err (fault.BadChar k), b, λ e. absurd cc)

pub some_answer : (text : List ℕ) → ((xs : List Lexeme) × Lexes 1 text xs) ⊎ ((k : ℕ) × IsBad text k) → Answered text
some_answer text (inl (xs, l)) = by_lexemes text xs l
some_answer text (inr (k, b)) = by_bad text k b

-- what lexemes are read as, by what they are
reads : (ws : List Terminal) (s : Stmt) → Statement s ws → whole_at statement_at ws ≡ Ok s
reads ws s says = whole_reads statement_at Statement AtEnd ws s reads_statement refl says

fails : (ws : List Terminal) (j : ℕ) (read : Result Stmt ℕ) → whole_at statement_at ws ≡ read → IsFaultOf Statement ws j → read ≡ Err j
fails ws j (Ok s) e f = absurd (f.none s (subst (IsExactOf Statement ws) e (exact ws)))
fails ws j (Err k) e f = ap (λ (n : ℕ). Err n) (sym (same_fault Statement ws j k f (subst (IsExactOf Statement ws) e (exact ws))))

-- a text is lexemes in one way, and not also bad
abbrev pub IsOneWay : List ℕ → Type 0
IsOneWay text = ((xs ys : List Lexeme) → Lexes 1 text xs → Lexes 1 text ys → xs ≡ ys) × ((j k : ℕ) → IsBad text j → IsBad text k → j ≡ k) × ((xs : List Lexeme) (k : ℕ) → Lexes 1 text xs → IsBad text k → ⊥)

alone : (text : List ℕ) (xs : List Lexeme) → IsOneWay text → Lexes 1 text xs → Alone text xs
alone text xs way l = ((λ ys m. way.0 xs ys l m), (λ k b. way.2 xs k l b))

pub one_answer : (text : List ℕ) → IsOneWay text → (q r : Result Stmt ParseFault) → Parses text q → Parses text r → Agrees q r
one_answer text way (Ok s) r p h = is_only text p.0 (Ok s) (alone text p.0 way p.1) (reads (terminals p.0) s p.2) r h
one_answer text way (Err (fault.BadChar j)) r p h = is_bad_only text j (λ ys l. way.2 ys j l p) (λ k b. way.1 j k p b) r h
one_answer text way (Err (fault.Syntax k)) r p h =
    is_only text p.0 (Err (fault.Syntax k)) (alone text p.0 way p.2) (p.1, fails (terminals p.0) p.1 (read_of p.0) refl p.3, p.4) r h
one_answer text way (Err fault.Memory) r p h = tt
