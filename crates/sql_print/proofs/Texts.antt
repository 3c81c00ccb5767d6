-- What is printed of a statement is read as that statement.
use Rattle.std.proofs.Common.{◌≡◌, ℕ, suc, Bool, true, false, List, [], ◌∷◌, map, Option, Some, None, refl, sym, ap, ◌∙◌, subst, arith}
use Rattle.std.specs.List.{All}
use Rattle.std.specs.Char.{to_ascii_uppercase}
use Rattle.dl_base.specs.Name.{name_test}
use Rattle.dl_base.specs.declared.statement.Stmt.{Stmt}
use Rattle.sql_lex.specs.declared.lexeme.LexKind.{LexKind}
use Rattle.sql_lex.specs.declared.lexeme.LexKind.TheVariants as lexeme
use Rattle.sql_lex.specs.declared.lexeme.Lexeme.{Lexeme}
use Rattle.sql_lex.specs.Spelling.{IsSpelled, Spells}
use Rattle.sql_lex.specs.Lexes.{Lexes}
use Rattle.sql_lex.specs.Joined as j
use Rattle.sql_lex.specs.Joined.{written, Piece, joined, ArePieces, LexesAs}
use Rattle.sql_grammar.specs.declared.symbol.Symbol.{Symbol}
use Rattle.sql_grammar.specs.declared.symbol.Symbol.TheVariants as symbol
use Rattle.sql_grammar.specs.declared.print_token.PrintToken.{PrintToken}
use Rattle.sql_grammar.specs.declared.print_token.PrintToken.TheVariants as print_token
use Rattle.sql_grammar.specs.declared.terminal.Terminal.{Terminal}
use Rattle.sql_grammar.specs.declared.terminal.Terminal.TheVariants.{Fixed}
use Rattle.sql_grammar.specs.Words.{bytes_of}
use Rattle.sql_grammar.specs.PrintTokens.{spelled}
use Rattle.sql_grammar.specs.Proper.{reserved_symbol, word_terminal, terminal, IsProper, AreProper}
use Rattle.sql_grammar.specs.PrintTokens.{function_name, print_terminal, print_terminals}
use Rattle.sql_grammar.specs.Dots.{is_dot, is_word, Dotted}
use Rattle.sql_grammar.specs.Printing.{printed}
use Rattle.sql_grammar.specs.Statements.{Statement}
use Rattle.sql_grammar.proofs.Reprinted.{prints_statement}
use Rattle.sql_grammar.specs.Meaning.{terminals, Means}
use Rattle.sql_print.specs.Writing.{symbol_kind, print_token_kind, print_token_bytes, piece_of, text_of}

-- the laws of the lexer
abbrev pub Written : Type 0
Written = (kind : LexKind) → IsSpelled kind → Spells kind (written kind)

abbrev pub Capitals : Type 0
Capitals = (word : List ℕ) → IsSpelled (lexeme.Word word) → Spells (lexeme.Word word) (map to_ascii_uppercase word)

abbrev pub Spelled : Type 0
Spelled = (xs : List Lexeme) (at : ℕ) (text : List ℕ) → Lexes at text xs → All (λ x. IsSpelled x.kind) xs

abbrev pub Joined : Type 0
Joined = (xs : List Piece) (at : ℕ) → ArePieces xs → LexesAs at (joined xs) (map (λ x. x.0) xs)

-- ---- each symbol

symbol_terminal : (m : Symbol) → terminal (symbol_kind m) ≡ Fixed m
unfolding reserved_symbol
symbol_terminal symbol.And = refl
symbol_terminal symbol.As = refl
symbol_terminal symbol.Asc = refl
symbol_terminal symbol.Begin = refl
symbol_terminal symbol.Bigint = refl
symbol_terminal symbol.By = refl
symbol_terminal symbol.Commit = refl
symbol_terminal symbol.Create = refl
symbol_terminal symbol.Datalink = refl
symbol_terminal symbol.Delete = refl
symbol_terminal symbol.Desc = refl
symbol_terminal symbol.Drop = refl
symbol_terminal symbol.From = refl
symbol_terminal symbol.Group = refl
symbol_terminal symbol.Inner = refl
symbol_terminal symbol.Insert = refl
symbol_terminal symbol.Integer = refl
symbol_terminal symbol.Into = refl
symbol_terminal symbol.Is = refl
symbol_terminal symbol.Join = refl
symbol_terminal symbol.Key = refl
symbol_terminal symbol.Not = refl
symbol_terminal symbol.Null = refl
symbol_terminal symbol.On = refl
symbol_terminal symbol.Or = refl
symbol_terminal symbol.Order = refl
symbol_terminal symbol.Primary = refl
symbol_terminal symbol.Rollback = refl
symbol_terminal symbol.Select = refl
symbol_terminal symbol.Set = refl
symbol_terminal symbol.Table = refl
symbol_terminal symbol.Update = refl
symbol_terminal symbol.Values = refl
symbol_terminal symbol.Varchar = refl
symbol_terminal symbol.Where = refl
symbol_terminal symbol.Open = refl
symbol_terminal symbol.Close = refl
symbol_terminal symbol.Comma = refl
symbol_terminal symbol.Dot = refl
symbol_terminal symbol.Semicolon = refl
symbol_terminal symbol.Star = refl
symbol_terminal symbol.Plus = refl
symbol_terminal symbol.Minus = refl
symbol_terminal symbol.Slash = refl
symbol_terminal symbol.Equal = refl
symbol_terminal symbol.Unequal = refl
symbol_terminal symbol.Less = refl
symbol_terminal symbol.LessEqual = refl
symbol_terminal symbol.Greater = refl
symbol_terminal symbol.GreaterEqual = refl

symbol_spelled : (m : Symbol) → Spells (symbol_kind m) (spelled m)
unfolding name_test
symbol_spelled symbol.And = (refl, refl)
symbol_spelled symbol.As = (refl, refl)
symbol_spelled symbol.Asc = (refl, refl)
symbol_spelled symbol.Begin = (refl, refl)
symbol_spelled symbol.Bigint = (refl, refl)
symbol_spelled symbol.By = (refl, refl)
symbol_spelled symbol.Commit = (refl, refl)
symbol_spelled symbol.Create = (refl, refl)
symbol_spelled symbol.Datalink = (refl, refl)
symbol_spelled symbol.Delete = (refl, refl)
symbol_spelled symbol.Desc = (refl, refl)
symbol_spelled symbol.Drop = (refl, refl)
symbol_spelled symbol.From = (refl, refl)
symbol_spelled symbol.Group = (refl, refl)
symbol_spelled symbol.Inner = (refl, refl)
symbol_spelled symbol.Insert = (refl, refl)
symbol_spelled symbol.Integer = (refl, refl)
symbol_spelled symbol.Into = (refl, refl)
symbol_spelled symbol.Is = (refl, refl)
symbol_spelled symbol.Join = (refl, refl)
symbol_spelled symbol.Key = (refl, refl)
symbol_spelled symbol.Not = (refl, refl)
symbol_spelled symbol.Null = (refl, refl)
symbol_spelled symbol.On = (refl, refl)
symbol_spelled symbol.Or = (refl, refl)
symbol_spelled symbol.Order = (refl, refl)
symbol_spelled symbol.Primary = (refl, refl)
symbol_spelled symbol.Rollback = (refl, refl)
symbol_spelled symbol.Select = (refl, refl)
symbol_spelled symbol.Set = (refl, refl)
symbol_spelled symbol.Table = (refl, refl)
symbol_spelled symbol.Update = (refl, refl)
symbol_spelled symbol.Values = (refl, refl)
symbol_spelled symbol.Varchar = (refl, refl)
symbol_spelled symbol.Where = (refl, refl)
symbol_spelled symbol.Open = refl
symbol_spelled symbol.Close = refl
symbol_spelled symbol.Comma = refl
symbol_spelled symbol.Dot = refl
symbol_spelled symbol.Semicolon = refl
symbol_spelled symbol.Star = refl
symbol_spelled symbol.Plus = refl
symbol_spelled symbol.Minus = refl
symbol_spelled symbol.Slash = refl
symbol_spelled symbol.Equal = refl
symbol_spelled symbol.Unequal = refl
symbol_spelled symbol.Less = refl
symbol_spelled symbol.LessEqual = refl
symbol_spelled symbol.Greater = refl
symbol_spelled symbol.GreaterEqual = refl

symbol_dot : (m : Symbol) → j.is_dot (symbol_kind m) ≡ true → is_dot (Fixed m) ≡ true
symbol_dot symbol.Dot e = refl
symbol_dot symbol.And e = absurd cc
symbol_dot symbol.As e = absurd cc
symbol_dot symbol.Asc e = absurd cc
symbol_dot symbol.Begin e = absurd cc
symbol_dot symbol.Bigint e = absurd cc
symbol_dot symbol.By e = absurd cc
symbol_dot symbol.Commit e = absurd cc
symbol_dot symbol.Create e = absurd cc
symbol_dot symbol.Datalink e = absurd cc
symbol_dot symbol.Delete e = absurd cc
symbol_dot symbol.Desc e = absurd cc
symbol_dot symbol.Drop e = absurd cc
symbol_dot symbol.From e = absurd cc
symbol_dot symbol.Group e = absurd cc
symbol_dot symbol.Inner e = absurd cc
symbol_dot symbol.Insert e = absurd cc
symbol_dot symbol.Integer e = absurd cc
symbol_dot symbol.Into e = absurd cc
symbol_dot symbol.Is e = absurd cc
symbol_dot symbol.Join e = absurd cc
symbol_dot symbol.Key e = absurd cc
symbol_dot symbol.Not e = absurd cc
symbol_dot symbol.Null e = absurd cc
symbol_dot symbol.On e = absurd cc
symbol_dot symbol.Or e = absurd cc
symbol_dot symbol.Order e = absurd cc
symbol_dot symbol.Primary e = absurd cc
symbol_dot symbol.Rollback e = absurd cc
symbol_dot symbol.Select e = absurd cc
symbol_dot symbol.Set e = absurd cc
symbol_dot symbol.Table e = absurd cc
symbol_dot symbol.Update e = absurd cc
symbol_dot symbol.Values e = absurd cc
symbol_dot symbol.Varchar e = absurd cc
symbol_dot symbol.Where e = absurd cc
symbol_dot symbol.Open e = absurd cc
symbol_dot symbol.Close e = absurd cc
symbol_dot symbol.Comma e = absurd cc
symbol_dot symbol.Semicolon e = absurd cc
symbol_dot symbol.Star e = absurd cc
symbol_dot symbol.Plus e = absurd cc
symbol_dot symbol.Minus e = absurd cc
symbol_dot symbol.Slash e = absurd cc
symbol_dot symbol.Equal e = absurd cc
symbol_dot symbol.Unequal e = absurd cc
symbol_dot symbol.Less e = absurd cc
symbol_dot symbol.LessEqual e = absurd cc
symbol_dot symbol.Greater e = absurd cc
symbol_dot symbol.GreaterEqual e = absurd cc

-- ---- each piece

terminal_kind : (i : PrintToken) → IsProper (print_terminal i) → terminal (print_token_kind i) ≡ print_terminal i
terminal_kind (print_token.Symbol m) h = symbol_terminal m
terminal_kind (print_token.Link w) h = ap (λ o. word_terminal o (bytes_of w)) h.1
terminal_kind (print_token.Function f) h = ap (λ o. word_terminal o (function_name f)) h.1
terminal_kind (print_token.Name n) h = ap (λ o. word_terminal o n) h.1
terminal_kind (print_token.Number z) h = refl
terminal_kind (print_token.Literal t) h = refl

spelled_piece : (i : PrintToken) → Written → Capitals → IsProper (print_terminal i) → Spells (print_token_kind i) (print_token_bytes i)
spelled_piece (print_token.Symbol m) w c h = symbol_spelled m
spelled_piece (print_token.Link l) w c h = c (bytes_of l) h.0
spelled_piece (print_token.Function f) w c h = c (function_name f) h.0
spelled_piece (print_token.Name n) w c h = w (lexeme.Word n) h.0
spelled_piece (print_token.Number z) w c h = w (lexeme.Number z) h
spelled_piece (print_token.Literal t) w c h = w (lexeme.Literal t) h

dot_kind : (i : PrintToken) → j.is_dot (print_token_kind i) ≡ true → is_dot (print_terminal i) ≡ true
dot_kind (print_token.Symbol m) e = symbol_dot m e
dot_kind (print_token.Link w) e = absurd cc
dot_kind (print_token.Function f) e = absurd cc
dot_kind (print_token.Name n) e = absurd cc
dot_kind (print_token.Number z) e = absurd cc
dot_kind (print_token.Literal t) e = absurd cc

word_kind : (i : PrintToken) → is_word (print_terminal i) ≡ true → j.is_word (print_token_kind i) ≡ true
word_kind (print_token.Symbol m) e = absurd cc
word_kind (print_token.Link w) e = refl
word_kind (print_token.Function f) e = refl
word_kind (print_token.Name n) e = refl
word_kind (print_token.Number z) e = absurd cc
word_kind (print_token.Literal t) e = absurd cc

pieces : (is : List PrintToken) (b : Bool) → Written → Capitals → AreProper (print_terminals is) → Dotted b (print_terminals is) → ArePieces (map piece_of is)
pieces [] b w c p d = tt
pieces (i ∷ []) b w c p d = spelled_piece i w c p.0
pieces (i ∷ k ∷ is) b w c p d = (spelled_piece i w c p.0, (λ e. word_kind i (d.1.0 (dot_kind k e))), pieces (k ∷ is) (is_word (print_terminal i)) w c p.1 d.1)

-- ---- the terminals of what is joined

kinds_of : (is : List PrintToken) → map (λ x. x.0) (map piece_of is) ≡ map print_token_kind is
kinds_of [] = refl
kinds_of (i ∷ is) = ap (λ (ks : List LexKind). print_token_kind i ∷ ks) (kinds_of is)

kinds_terminals : (xs : List Lexeme) → map terminal (map (λ x. x.kind) xs) ≡ terminals xs
kinds_terminals [] = refl
kinds_terminals (x ∷ xs) = ap (λ (ts : List Terminal). terminal x.kind ∷ ts) (kinds_terminals xs)

print_tokens_terminals : (is : List PrintToken) → AreProper (print_terminals is) → map terminal (map print_token_kind is) ≡ print_terminals is
print_tokens_terminals [] h = refl
print_tokens_terminals (i ∷ is) h = (λ k. terminal_kind i h.0 k ∷ print_tokens_terminals is h.1 k)

-- ---- the terminals of a text are proper

word_proper : (o : Option Symbol) (w : List ℕ) → reserved_symbol w ≡ o → IsSpelled (lexeme.Word w) → IsProper (word_terminal o w)
word_proper (Some m) w e s = tt
word_proper None w e s = (s, e)

lexeme_proper : (k : LexKind) → IsSpelled k → IsProper (terminal k)
lexeme_proper (lexeme.Word w) s = word_proper (reserved_symbol w) w refl s
lexeme_proper (lexeme.Number z) s = s
lexeme_proper (lexeme.Literal t) s = s
lexeme_proper (lexeme.Sign k) s = tt

lexemes_proper : (xs : List Lexeme) → All (λ x. IsSpelled x.kind) xs → AreProper (terminals xs)
lexemes_proper [] h = tt
lexemes_proper (x ∷ xs) h = (lexeme_proper x.kind (h 0 x (omega arith)), lexemes_proper xs (λ k d lt. h (suc k) d (omega arith)))

-- ---- the law

pub means_again : Written → Capitals → Spelled → Joined → (text : List ℕ) (s : Stmt) → Means text s → Means (text_of s) s
means_again w c sp jo text s (xs, lexes, says) =
    let proper = lexemes_proper xs (sp xs 1 text lexes) in
    let again = prints_statement s (terminals xs) says proper in
    let l = jo (map piece_of (printed s)) 1 (pieces (printed s) false w c again.proper again.dotted) in
    let same : terminals l.0 ≡ print_terminals (printed s) = sym (kinds_terminals l.0) ∙ ap (λ (ks : List LexKind). map terminal ks) (l.2 ∙ kinds_of (printed s)) ∙ print_tokens_terminals (printed s) again.proper in
    (l.0, l.1, subst (Statement s) (sym same) again.says)
