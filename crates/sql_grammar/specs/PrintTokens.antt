-- What is printed: the terminals of what is printed in one piece, and how symbols are written. Read Lang first.
use Rattle.std.specs.Prelude.{ℕ, List, [], ◌∷◌, map}
use Rattle.sql_grammar.specs.declared.symbol.Symbol.{Symbol}
use Rattle.sql_grammar.specs.declared.symbol.Symbol.TheVariants as symbol
use Rattle.sql_grammar.specs.declared.print_token.Function.{Function}
use Rattle.sql_grammar.specs.declared.print_token.Function.TheVariants as function
use Rattle.sql_grammar.specs.declared.print_token.PrintToken.{PrintToken}
use Rattle.sql_grammar.specs.declared.print_token.PrintToken.TheVariants as print_token
use Rattle.sql_grammar.specs.declared.token.Token.{Token}
use Rattle.sql_grammar.specs.declared.token.Token.TheVariants as token
use Rattle.sql_grammar.specs.declared.terminal.Terminal.{Terminal}
use Rattle.sql_grammar.specs.declared.terminal.Terminal.TheVariants.{Fixed, Word, Number, Literal}
use Rattle.sql_grammar.specs.Words as words
use Rattle.sql_grammar.specs.Words.{bytes_of}
use Rattle.sql_grammar.specs.Forms.{fold_name, part_name}

abbrev pub function_name : Function → List ℕ
function_name function.Count = words.count
function_name (function.Aggregate g) = fold_name g
function_name (function.Access p) = part_name p
function_name function.Dlvalue = words.dlvalue

abbrev pub print_terminal : PrintToken → Terminal
print_terminal (print_token.Symbol m) = Fixed m
print_terminal (print_token.Link w) = Word (bytes_of w)
print_terminal (print_token.Function f) = Word (function_name f)
print_terminal (print_token.Name n) = Word n
print_terminal (print_token.Number z) = Number z
print_terminal (print_token.Literal t) = Literal t

abbrev pub print_terminals : List PrintToken → List Terminal
print_terminals xs = map print_terminal xs

abbrev pub print_token_of : Token → PrintToken
print_token_of (token.Symbol m) = print_token.Symbol m
print_token_of (token.Word w) = print_token.Link w

-- each symbol as it is written, reserved words in capitals
abbrev pub spelled : Symbol → List ℕ
spelled symbol.And = 65 ∷ 78 ∷ 68 ∷ []
spelled symbol.As = 65 ∷ 83 ∷ []
spelled symbol.Asc = 65 ∷ 83 ∷ 67 ∷ []
spelled symbol.Begin = 66 ∷ 69 ∷ 71 ∷ 73 ∷ 78 ∷ []
spelled symbol.Bigint = 66 ∷ 73 ∷ 71 ∷ 73 ∷ 78 ∷ 84 ∷ []
spelled symbol.By = 66 ∷ 89 ∷ []
spelled symbol.Commit = 67 ∷ 79 ∷ 77 ∷ 77 ∷ 73 ∷ 84 ∷ []
spelled symbol.Create = 67 ∷ 82 ∷ 69 ∷ 65 ∷ 84 ∷ 69 ∷ []
spelled symbol.Datalink = 68 ∷ 65 ∷ 84 ∷ 65 ∷ 76 ∷ 73 ∷ 78 ∷ 75 ∷ []
spelled symbol.Delete = 68 ∷ 69 ∷ 76 ∷ 69 ∷ 84 ∷ 69 ∷ []
spelled symbol.Desc = 68 ∷ 69 ∷ 83 ∷ 67 ∷ []
spelled symbol.Drop = 68 ∷ 82 ∷ 79 ∷ 80 ∷ []
spelled symbol.From = 70 ∷ 82 ∷ 79 ∷ 77 ∷ []
spelled symbol.Group = 71 ∷ 82 ∷ 79 ∷ 85 ∷ 80 ∷ []
spelled symbol.Inner = 73 ∷ 78 ∷ 78 ∷ 69 ∷ 82 ∷ []
spelled symbol.Insert = 73 ∷ 78 ∷ 83 ∷ 69 ∷ 82 ∷ 84 ∷ []
spelled symbol.Integer = 73 ∷ 78 ∷ 84 ∷ 69 ∷ 71 ∷ 69 ∷ 82 ∷ []
spelled symbol.Into = 73 ∷ 78 ∷ 84 ∷ 79 ∷ []
spelled symbol.Is = 73 ∷ 83 ∷ []
spelled symbol.Join = 74 ∷ 79 ∷ 73 ∷ 78 ∷ []
spelled symbol.Key = 75 ∷ 69 ∷ 89 ∷ []
spelled symbol.Not = 78 ∷ 79 ∷ 84 ∷ []
spelled symbol.Null = 78 ∷ 85 ∷ 76 ∷ 76 ∷ []
spelled symbol.On = 79 ∷ 78 ∷ []
spelled symbol.Or = 79 ∷ 82 ∷ []
spelled symbol.Order = 79 ∷ 82 ∷ 68 ∷ 69 ∷ 82 ∷ []
spelled symbol.Primary = 80 ∷ 82 ∷ 73 ∷ 77 ∷ 65 ∷ 82 ∷ 89 ∷ []
spelled symbol.Rollback = 82 ∷ 79 ∷ 76 ∷ 76 ∷ 66 ∷ 65 ∷ 67 ∷ 75 ∷ []
spelled symbol.Select = 83 ∷ 69 ∷ 76 ∷ 69 ∷ 67 ∷ 84 ∷ []
spelled symbol.Set = 83 ∷ 69 ∷ 84 ∷ []
spelled symbol.Table = 84 ∷ 65 ∷ 66 ∷ 76 ∷ 69 ∷ []
spelled symbol.Update = 85 ∷ 80 ∷ 68 ∷ 65 ∷ 84 ∷ 69 ∷ []
spelled symbol.Values = 86 ∷ 65 ∷ 76 ∷ 85 ∷ 69 ∷ 83 ∷ []
spelled symbol.Varchar = 86 ∷ 65 ∷ 82 ∷ 67 ∷ 72 ∷ 65 ∷ 82 ∷ []
spelled symbol.Where = 87 ∷ 72 ∷ 69 ∷ 82 ∷ 69 ∷ []
spelled symbol.Open = 40 ∷ []
spelled symbol.Close = 41 ∷ []
spelled symbol.Comma = 44 ∷ []
spelled symbol.Dot = 46 ∷ []
spelled symbol.Semicolon = 59 ∷ []
spelled symbol.Star = 42 ∷ []
spelled symbol.Plus = 43 ∷ []
spelled symbol.Minus = 45 ∷ []
spelled symbol.Slash = 47 ∷ []
spelled symbol.Equal = 61 ∷ []
spelled symbol.Unequal = 60 ∷ 62 ∷ []
spelled symbol.Less = 60 ∷ []
spelled symbol.LessEqual = 60 ∷ 61 ∷ []
spelled symbol.Greater = 62 ∷ []
spelled symbol.GreaterEqual = 62 ∷ 61 ∷ []
