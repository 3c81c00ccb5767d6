-- What is printed: how print tokens are written as text. Read Printing of sql_grammar first.
use Rattle.std.specs.Prelude.{ℕ, Bool, true, false, List, [], ◌∷◌, map}
use Rattle.std.specs.Char.{to_ascii_uppercase}
use Rattle.std.specs.Fmt.{signed_decimal}
use Rattle.dl_base.specs.declared.statement.Stmt.{Stmt}
use Rattle.sql_lex.specs.declared.lexeme.LexKind.{LexKind}
use Rattle.sql_lex.specs.declared.lexeme.LexKind.TheVariants as lexeme
use Rattle.sql_lex.specs.Spelling.{quoted}
use Rattle.sql_lex.specs.Joined.{Piece, joined}
use Rattle.sql_grammar.specs.declared.symbol.Symbol.{Symbol}
use Rattle.sql_grammar.specs.declared.symbol.Symbol.TheVariants as symbol
use Rattle.sql_grammar.specs.declared.print_token.PrintToken.{PrintToken}
use Rattle.sql_grammar.specs.declared.print_token.PrintToken.TheVariants as print_token
use Rattle.sql_grammar.specs.Words.{bytes_of}
use Rattle.sql_grammar.specs.PrintTokens.{spelled}
use Rattle.sql_grammar.specs.PrintTokens.{function_name}
use Rattle.sql_grammar.specs.Printing.{printed}

-- the lexeme of a symbol
abbrev pub symbol_kind : Symbol → LexKind
symbol_kind symbol.And = lexeme.Word (97 ∷ 110 ∷ 100 ∷ [])
symbol_kind symbol.As = lexeme.Word (97 ∷ 115 ∷ [])
symbol_kind symbol.Asc = lexeme.Word (97 ∷ 115 ∷ 99 ∷ [])
symbol_kind symbol.Begin = lexeme.Word (98 ∷ 101 ∷ 103 ∷ 105 ∷ 110 ∷ [])
symbol_kind symbol.Bigint = lexeme.Word (98 ∷ 105 ∷ 103 ∷ 105 ∷ 110 ∷ 116 ∷ [])
symbol_kind symbol.By = lexeme.Word (98 ∷ 121 ∷ [])
symbol_kind symbol.Commit = lexeme.Word (99 ∷ 111 ∷ 109 ∷ 109 ∷ 105 ∷ 116 ∷ [])
symbol_kind symbol.Create = lexeme.Word (99 ∷ 114 ∷ 101 ∷ 97 ∷ 116 ∷ 101 ∷ [])
symbol_kind symbol.Datalink = lexeme.Word (100 ∷ 97 ∷ 116 ∷ 97 ∷ 108 ∷ 105 ∷ 110 ∷ 107 ∷ [])
symbol_kind symbol.Delete = lexeme.Word (100 ∷ 101 ∷ 108 ∷ 101 ∷ 116 ∷ 101 ∷ [])
symbol_kind symbol.Desc = lexeme.Word (100 ∷ 101 ∷ 115 ∷ 99 ∷ [])
symbol_kind symbol.Drop = lexeme.Word (100 ∷ 114 ∷ 111 ∷ 112 ∷ [])
symbol_kind symbol.From = lexeme.Word (102 ∷ 114 ∷ 111 ∷ 109 ∷ [])
symbol_kind symbol.Group = lexeme.Word (103 ∷ 114 ∷ 111 ∷ 117 ∷ 112 ∷ [])
symbol_kind symbol.Inner = lexeme.Word (105 ∷ 110 ∷ 110 ∷ 101 ∷ 114 ∷ [])
symbol_kind symbol.Insert = lexeme.Word (105 ∷ 110 ∷ 115 ∷ 101 ∷ 114 ∷ 116 ∷ [])
symbol_kind symbol.Integer = lexeme.Word (105 ∷ 110 ∷ 116 ∷ 101 ∷ 103 ∷ 101 ∷ 114 ∷ [])
symbol_kind symbol.Into = lexeme.Word (105 ∷ 110 ∷ 116 ∷ 111 ∷ [])
symbol_kind symbol.Is = lexeme.Word (105 ∷ 115 ∷ [])
symbol_kind symbol.Join = lexeme.Word (106 ∷ 111 ∷ 105 ∷ 110 ∷ [])
symbol_kind symbol.Key = lexeme.Word (107 ∷ 101 ∷ 121 ∷ [])
symbol_kind symbol.Not = lexeme.Word (110 ∷ 111 ∷ 116 ∷ [])
symbol_kind symbol.Null = lexeme.Word (110 ∷ 117 ∷ 108 ∷ 108 ∷ [])
symbol_kind symbol.On = lexeme.Word (111 ∷ 110 ∷ [])
symbol_kind symbol.Or = lexeme.Word (111 ∷ 114 ∷ [])
symbol_kind symbol.Order = lexeme.Word (111 ∷ 114 ∷ 100 ∷ 101 ∷ 114 ∷ [])
symbol_kind symbol.Primary = lexeme.Word (112 ∷ 114 ∷ 105 ∷ 109 ∷ 97 ∷ 114 ∷ 121 ∷ [])
symbol_kind symbol.Rollback = lexeme.Word (114 ∷ 111 ∷ 108 ∷ 108 ∷ 98 ∷ 97 ∷ 99 ∷ 107 ∷ [])
symbol_kind symbol.Select = lexeme.Word (115 ∷ 101 ∷ 108 ∷ 101 ∷ 99 ∷ 116 ∷ [])
symbol_kind symbol.Set = lexeme.Word (115 ∷ 101 ∷ 116 ∷ [])
symbol_kind symbol.Table = lexeme.Word (116 ∷ 97 ∷ 98 ∷ 108 ∷ 101 ∷ [])
symbol_kind symbol.Update = lexeme.Word (117 ∷ 112 ∷ 100 ∷ 97 ∷ 116 ∷ 101 ∷ [])
symbol_kind symbol.Values = lexeme.Word (118 ∷ 97 ∷ 108 ∷ 117 ∷ 101 ∷ 115 ∷ [])
symbol_kind symbol.Varchar = lexeme.Word (118 ∷ 97 ∷ 114 ∷ 99 ∷ 104 ∷ 97 ∷ 114 ∷ [])
symbol_kind symbol.Where = lexeme.Word (119 ∷ 104 ∷ 101 ∷ 114 ∷ 101 ∷ [])
symbol_kind symbol.Open = lexeme.Sign 0
symbol_kind symbol.Close = lexeme.Sign 1
symbol_kind symbol.Comma = lexeme.Sign 2
symbol_kind symbol.Dot = lexeme.Sign 3
symbol_kind symbol.Semicolon = lexeme.Sign 4
symbol_kind symbol.Star = lexeme.Sign 5
symbol_kind symbol.Plus = lexeme.Sign 6
symbol_kind symbol.Minus = lexeme.Sign 7
symbol_kind symbol.Slash = lexeme.Sign 8
symbol_kind symbol.Equal = lexeme.Sign 9
symbol_kind symbol.Unequal = lexeme.Sign 10
symbol_kind symbol.Less = lexeme.Sign 11
symbol_kind symbol.LessEqual = lexeme.Sign 12
symbol_kind symbol.Greater = lexeme.Sign 13
symbol_kind symbol.GreaterEqual = lexeme.Sign 14

-- the lexeme of what is printed
abbrev pub print_token_kind : PrintToken → LexKind
print_token_kind (print_token.Symbol m) = symbol_kind m
print_token_kind (print_token.Link w) = lexeme.Word (bytes_of w)
print_token_kind (print_token.Function f) = lexeme.Word (function_name f)
print_token_kind (print_token.Name n) = lexeme.Word n
print_token_kind (print_token.Number z) = lexeme.Number z
print_token_kind (print_token.Literal t) = lexeme.Literal t

-- words in capitals, names as they are folded
abbrev pub print_token_bytes : PrintToken → List ℕ
print_token_bytes (print_token.Symbol m) = spelled m
print_token_bytes (print_token.Link w) = map to_ascii_uppercase (bytes_of w)
print_token_bytes (print_token.Function f) = map to_ascii_uppercase (function_name f)
print_token_bytes (print_token.Name n) = n
print_token_bytes (print_token.Number z) = signed_decimal z
print_token_bytes (print_token.Literal t) = quoted t

abbrev pub piece_of : PrintToken → Piece
piece_of i = (print_token_kind i, print_token_bytes i)

abbrev pub joined_tokens : List PrintToken → List ℕ
joined_tokens is = joined (map piece_of is)

-- one blank between lexemes, and none round a dot
abbrev pub text_of : Stmt → List ℕ
text_of s = joined_tokens (printed s)

-- a blank, or none
abbrev pub gap : Bool → List ℕ
gap true = []
gap false = 32 ∷ []
