-- The language: how the operators are said, and how tightly they bind: OR 0, AND 1, NOT 2, comparisons and IS NULL 3, sums 4, products 5, a sign 6, the rest 7.
use Rattle.std.specs.Prelude.{ℕ, suc}
use Rattle.dl_base.specs.declared.statement.Op.{Op}
use Rattle.dl_base.specs.declared.statement.Op.TheVariants.{Or, And, Eq, Ne, Lt, Le, Gt, Ge, Add, Sub, Mul, Div}
use Rattle.sql_grammar.specs.declared.symbol.Symbol.{Symbol}
use Rattle.sql_grammar.specs.declared.symbol.Symbol.TheVariants as symbol

-- The sign or the word of an operator.
abbrev pub symbol_of : Op → Symbol
symbol_of Or = symbol.Or
symbol_of And = symbol.And
symbol_of Eq = symbol.Equal
symbol_of Ne = symbol.Unequal
symbol_of Lt = symbol.Less
symbol_of Le = symbol.LessEqual
symbol_of Gt = symbol.Greater
symbol_of Ge = symbol.GreaterEqual
symbol_of Add = symbol.Plus
symbol_of Sub = symbol.Minus
symbol_of Mul = symbol.Star
symbol_of Div = symbol.Slash

abbrev pub level_of : Op → ℕ
level_of Or = 0
level_of And = 1
level_of Eq = 3
level_of Ne = 3
level_of Lt = 3
level_of Le = 3
level_of Gt = 3
level_of Ge = 3
level_of Add = 4
level_of Sub = 4
level_of Mul = 5
level_of Div = 5

-- A chain goes on to the left of its operator; a comparison does not.
abbrev pub left_of : Op → ℕ
left_of Or = 0
left_of And = 1
left_of Eq = 4
left_of Ne = 4
left_of Lt = 4
left_of Le = 4
left_of Gt = 4
left_of Ge = 4
left_of Add = 4
left_of Sub = 4
left_of Mul = 5
left_of Div = 5

abbrev pub right_of : Op → ℕ
right_of o = suc (level_of o)
