use Rattle.std.proofs.Common.{◌≡◌, ℕ, List, Result, Ok, Err, sym, subst}
use Rattle.sql_lex.specs.declared.lexeme.Lexeme.{Lexeme}
use Rattle.sql_lex.specs.declared.lexeme.LexFault.{LexFault}
use Rattle.sql_lex.specs.declared.lexeme.LexFault.TheVariants.{BadChar}
use Rattle.sql_lex.specs.Lexes.{AnswersLexing}
use Rattle.sql_syntax.specs.declared.parser.ParseFault.TheVariants as fault
use Rattle.sql_syntax.specs.Parsing.{Agrees}
use Rattle.sql_syntax.proofs.Parsed.{Alone, is_exact, is_only, is_bad_only}
use Rattle.sql_syntax.proofs.parser.parse.Goals as goal

abbrev Lexed : Type 0
Lexed = Result (List Lexeme) ℕ

abbrev list : List Lexeme → Lexed
list xs = Ok xs

abbrev bad : ℕ → Lexed
bad k = Err k

alone_ys : (xs ys : List Lexeme) → list ys ≡ list xs → xs ≡ ys
alone_ys xs ys e = cc

alone_k : (xs : List Lexeme) (k : ℕ) → bad k ≡ list xs → ⊥
alone_k xs k e = cc

none_ys : (j : ℕ) (ys : List Lexeme) → list ys ≡ bad j → ⊥
none_ys j ys e = cc

same_k : (j k : ℕ) → bad k ≡ bad j → j ≡ k
same_k j k e = cc

is_bad : (f : LexFault) (j : ℕ) (r : Lexed) → f ≡ BadChar j → AnswersLexing (Err f) r → r ≡ bad j
is_bad f j r e h = subst (λ (f : LexFault). AnswersLexing (Err f) r) e h

pub returns-in-Ok-clause-exact : goal.returns-in-Ok-clause-exact
returns-in-Ok-clause-exact c =
    is_exact c.args.text.now c.in-Ok.lexemes c.read.result c.in-Ok.ensures.found c.read.ensures

pub returns-in-Ok-clause-only : goal.returns-in-Ok-clause-only
returns-in-Ok-clause-only c =
    let xs = c.in-Ok.lexemes in
    let alone : Alone c.args.text.now xs = ((λ ys l. alone_ys xs ys (c.in-Ok.ensures.only ys l)), (λ k b. alone_k xs k (c.in-Ok.ensures.bad_only k b))) in
    is_only c.args.text.now xs c.read.result alone c.read.ensures

pub returns-in-Err-BadChar-clause-only : goal.returns-in-Err-BadChar-clause-only
returns-in-Err-BadChar-clause-only c =
    let p = c.in-Err-BadChar.place in
    let f = c.in-Err-BadChar.field-0 in
    let e = c.in-Err-BadChar.field-0-is in
    λ r says. subst (λ (k : ℕ). Agrees (Err (fault.BadChar k)) r) (sym c.in-Err-BadChar.place-is) (is_bad_only c.args.text.now p (λ ys l. none_ys p ys (is_bad f p (list ys) e (c.in-Err-BadChar.ensures.only ys l))) (λ k b. same_k p k (is_bad f p (bad k) e (c.in-Err-BadChar.ensures.bad_only k b))) r says)
