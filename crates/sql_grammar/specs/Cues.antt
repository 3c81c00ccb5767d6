-- The reader: what a terminal is to an expression. Read Levels first.
use Rattle.std.specs.Prelude.{ℕ, ℤ, List}
use Rattle.dl_base.specs.declared.statement.Op.{Op}
use Rattle.dl_base.specs.declared.statement.Op.TheVariants as op
use Rattle.sql_grammar.specs.declared.symbol.Symbol.{Symbol}
use Rattle.sql_grammar.specs.declared.symbol.Symbol.TheVariants as symbol
use Rattle.sql_grammar.specs.declared.terminal.Terminal.{Terminal}
use Rattle.sql_grammar.specs.declared.terminal.Terminal.TheVariants.{Fixed, Word, Number, Literal}

pub data Cue : Type 0 where
  an_operator : Op → Cue
  a_not : Cue
  an_is : Cue
  a_null : Cue
  an_open : Cue
  a_close : Cue
  a_comma : Cue
  a_dot : Cue
  a_number : ℤ → Cue
  a_literal : List ℕ → Cue
  a_word : List ℕ → Cue
  -- what stands in no expression
  another : Terminal → Cue

abbrev pub cue_of : Symbol → Cue
cue_of symbol.Or = an_operator op.Or
cue_of symbol.And = an_operator op.And
cue_of symbol.Equal = an_operator op.Eq
cue_of symbol.Unequal = an_operator op.Ne
cue_of symbol.Less = an_operator op.Lt
cue_of symbol.LessEqual = an_operator op.Le
cue_of symbol.Greater = an_operator op.Gt
cue_of symbol.GreaterEqual = an_operator op.Ge
cue_of symbol.Plus = an_operator op.Add
cue_of symbol.Minus = an_operator op.Sub
cue_of symbol.Star = an_operator op.Mul
cue_of symbol.Slash = an_operator op.Div
cue_of symbol.Not = a_not
cue_of symbol.Is = an_is
cue_of symbol.Null = a_null
cue_of symbol.Open = an_open
cue_of symbol.Close = a_close
cue_of symbol.Comma = a_comma
cue_of symbol.Dot = a_dot
cue_of m = another (Fixed m)

abbrev pub cue : Terminal → Cue
cue (Fixed m) = cue_of m
cue (Number n) = a_number n
cue (Literal t) = a_literal t
cue (Word w) = a_word w
