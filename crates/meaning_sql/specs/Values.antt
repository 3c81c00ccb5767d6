-- What an expression means at a row, its aggregates being over a group of rows.
use Rattle.std.specs.Prelude.{ℕ, not, List, length, Option, Some, None, Result, Ok, if◌then◌else◌, slice_get, map, unwrap_or, pos}
use Rattle.dl_base.specs.declared.sql_fault.SqlFault.{SqlFault}
use Rattle.dl_base.specs.declared.column.Options.{Options}
use Rattle.dl_base.specs.declared.value.Value.{Value}
use Rattle.dl_base.specs.declared.value.Value.TheVariants as values
use Rattle.dl_base.specs.declared.value.Row.{Row}
use Rattle.dl_base.specs.declared.statement.Expr.{Expr, Expr-F, fold-Expr}
use Rattle.dl_base.specs.declared.statement.Expr.TheOpen as level
use Rattle.meaning_sql.specs.declared.Context.{Context}
use Rattle.meaning_sql.specs.Columns.{Columns, place_of, options_at}
use Rattle.meaning_sql.specs.Datalinks.{datalink, accessed}
use Rattle.meaning_sql.specs.Faults.{◌>>=◌}
use Rattle.meaning_sql.specs.Operators.{truth_of, of_truth, not3, negated, binary, is_null, gathered}

-- the value at a place of a row
unfoldable pub cell : Row → ℕ → Value
cell row i = unwrap_or (slice_get row.values i) values.Null

-- what an expression says: its value at a row, and the options of the column that it is, if it is one under link control
pub record Denotation : Type 0 where
  pub under : Option Options
  pub at : Row → Result Value SqlFault

-- what an expression says that is no column
abbrev pub plain : (Row → Result Value SqlFault) → Denotation
plain at = record { under = None; at = at }

-- one level of an expression, of what its operands say
abbrev pub denotation_at : Columns → Context → List Row → Expr-F Denotation → Denotation
denotation_at columns context group (level.Number z) = plain (λ row. Ok (values.Int z))
denotation_at columns context group (level.Literal t) = plain (λ row. Ok (values.Text t))
denotation_at columns context group level.Null = plain (λ row. Ok values.Null)
denotation_at columns context group (level.Column r) = record { under = options_at columns (place_of columns r); at = λ row. place_of columns r >>= λ i. Ok (cell row i) }
denotation_at columns context group (level.Not a) = plain (λ row. a.at row >>= λ x. Ok (of_truth (not3 (truth_of x))))
denotation_at columns context group (level.Minus a) = plain (λ row. a.at row >>= negated)
denotation_at columns context group (level.Binary op a b) = plain (λ row. a.at row >>= λ x. binary op x (b.at row))
denotation_at columns context group (level.IsNull a is) = plain (λ row. a.at row >>= λ x. Ok (of_truth (Some (if is then is_null x else not (is_null x)))))
denotation_at columns context group level.CountAll = plain (λ row. Ok (values.Int (pos (length group))))
denotation_at columns context group (level.Aggregate f a) = plain (λ row. gathered f values.Null (map a.at group))
denotation_at columns context group (level.Dlvalue1 a) = plain (λ row. a.at row >>= λ x. datalink context.server x values.Null values.Null)
denotation_at columns context group (level.Dlvalue2 a b) = plain (λ row. a.at row >>= λ x. b.at row >>= λ y. datalink context.server x y values.Null)
denotation_at columns context group (level.Dlvalue3 a b c) = plain (λ row. a.at row >>= λ x. b.at row >>= λ y. c.at row >>= λ z. datalink context.server x y z)
denotation_at columns context group (level.Access part a) = plain (λ row. a.at row >>= λ x. Ok (accessed context a.under part x))

abbrev pub denotation : Columns → Context → List Row → Expr → Denotation
denotation columns context group = fold-Expr Denotation (denotation_at columns context group)

-- the value of an expression at a row, or why it is refused
abbrev pub meaning : Columns → Context → List Row → Expr → Row → Result Value SqlFault
meaning columns context group e = (denotation columns context group e).at
