-- What operators and aggregates make of values. Only operands of the types that they take matter; NULL fits each.
use Rattle.std.specs.Prelude.{◌==◌, ◌^◌, Bool, true, false, not, List, [], ◌∷◌, Option, Some, None, Result, Ok, Err, if◌then◌else◌, ℤ, pos, negsuc, ◌+ℤ◌, ◌-ℤ◌, ◌*ℤ◌, neg_ℤ, int_div, nat_lt}
use Rattle.std.specs.Ordering.{nat_cmp, int_cmp, is_lt, is_le, is_gt, is_ge, is_eq, is_ne}
use Rattle.std.specs.declared.cmp.Ordering.{Ordering}
use Rattle.std.specs.Option.{option_map, option_map_or}
use Rattle.std.specs.Cmp.Lexicographic.{slice_cmp}
use Rattle.dl_base.specs.declared.sql_fault.SqlFault.{SqlFault}
use Rattle.dl_base.specs.declared.sql_fault.SqlFault.TheVariants as faults
use Rattle.dl_base.specs.declared.value.Value.{Value}
use Rattle.dl_base.specs.declared.value.Value.TheVariants as values
use Rattle.dl_base.specs.declared.statement.Op.{Op}
use Rattle.dl_base.specs.declared.statement.Op.TheVariants as ops
use Rattle.dl_base.specs.declared.statement.Fold.{Fold}
use Rattle.dl_base.specs.declared.statement.Fold.TheVariants as aggregates
use Rattle.meaning_sql.specs.Faults.{◌>>=◌}

-- Truth: inside a value it is INTEGER 1 or 0, and unknown is NULL.

abbrev pub is_zero : ℤ → Bool
is_zero (pos n) = n == 0
is_zero (negsuc n) = false

unfoldable pub truth_of : Value → Option Bool
truth_of (values.Int z) = Some (not (is_zero z))
truth_of values.Null = None
truth_of (values.Text t) = None
truth_of (values.Link d) = None

unfoldable pub of_truth : Option Bool → Value
of_truth (Some true) = values.Int (pos 1)
of_truth (Some false) = values.Int (pos 0)
of_truth None = values.Null

unfoldable pub not3 : Option Bool → Option Bool
not3 (Some b) = Some (not b)
not3 None = None

abbrev pub and3 : Option Bool → Option Bool → Option Bool
and3 (Some false) q = Some false
and3 (Some true) q = q
and3 None (Some false) = Some false
and3 None (Some true) = None
and3 None None = None

abbrev pub or3 : Option Bool → Option Bool → Option Bool
or3 (Some true) q = Some true
or3 (Some false) q = q
or3 None (Some true) = Some true
or3 None (Some false) = None
or3 None None = None

-- AND: the right side counts only where the left one is not false
abbrev pub and_of : Option Bool → Result Value SqlFault → Result Value SqlFault
and_of (Some false) right = Ok (of_truth (Some false))
and_of (Some true) right = right >>= λ y. Ok (of_truth (and3 (Some true) (truth_of y)))
and_of None right = right >>= λ y. Ok (of_truth (and3 None (truth_of y)))

-- OR: the right side counts only where the left one is not true
abbrev pub or_of : Option Bool → Result Value SqlFault → Result Value SqlFault
or_of (Some true) right = Ok (of_truth (Some true))
or_of (Some false) right = right >>= λ y. Ok (of_truth (or3 (Some false) (truth_of y)))
or_of None right = right >>= λ y. Ok (of_truth (or3 None (truth_of y)))

-- Whole numbers of 64 bits.

abbrev pub fits_i64 : ℤ → Bool
fits_i64 (pos n) = nat_lt n (2 ^ 63)
fits_i64 (negsuc n) = nat_lt n (2 ^ 63)

abbrev pub whole : ℤ → Result Value SqlFault
whole z = if fits_i64 z then Ok (values.Int z) else Err faults.Overflow

-- the quotient, cut toward zero
abbrev pub quotient : ℤ → ℤ → Result Value SqlFault
quotient a b = if is_zero b then Err faults.ZeroDivide else whole (int_div a b)

-- of two INTEGER; else an operand is NULL, and so is the answer
abbrev pub on_ints : (ℤ → ℤ → Result Value SqlFault) → Value → Value → Result Value SqlFault
on_ints f (values.Int a) (values.Int b) = f a b
on_ints f x y = Ok values.Null

unfoldable pub negated : Value → Result Value SqlFault
negated (values.Int z) = whole (neg_ℤ z)
negated values.Null = Ok values.Null
negated (values.Text t) = Ok values.Null
negated (values.Link d) = Ok values.Null

-- Comparison: two INTEGER as numbers, two VARCHAR by their bytes; unknown where an operand is NULL.

abbrev pub compared : Value → Value → Option Ordering
compared (values.Int a) (values.Int b) = Some (int_cmp a b)
compared (values.Text a) (values.Text b) = Some (slice_cmp nat_cmp a b)
compared x y = None

abbrev pub truth_by : (Ordering → Bool) → Value → Value → Result Value SqlFault
truth_by test x y = Ok (of_truth (option_map test (compared x y)))

unfoldable pub is_null : Value → Bool
is_null values.Null = true
is_null (values.Int z) = false
is_null (values.Text t) = false
is_null (values.Link d) = false

-- an operator, of its left side's value and what its right side gives
unfoldable pub binary : Op → Value → Result Value SqlFault → Result Value SqlFault
binary ops.Or x right = or_of (truth_of x) right
binary ops.And x right = and_of (truth_of x) right
binary ops.Eq x right = right >>= truth_by is_eq x
binary ops.Ne x right = right >>= truth_by is_ne x
binary ops.Lt x right = right >>= truth_by is_lt x
binary ops.Le x right = right >>= truth_by is_le x
binary ops.Gt x right = right >>= truth_by is_gt x
binary ops.Ge x right = right >>= truth_by is_ge x
binary ops.Add x right = right >>= on_ints (λ a b. whole (a +ℤ b)) x
binary ops.Sub x right = right >>= on_ints (λ a b. whole (a -ℤ b)) x
binary ops.Mul x right = right >>= on_ints (λ a b. whole (a *ℤ b)) x
binary ops.Div x right = right >>= on_ints quotient x

-- Aggregates: of the values of the rows in order. NULL is left out, and is the answer over no value.

abbrev pub added : Value → Value → Result Value SqlFault
added values.Null y = Ok y
added x values.Null = Ok x
added x y = on_ints (λ a b. whole (a +ℤ b)) x y

-- y where it comes before x, or where there is no x
abbrev pub better : (Ordering → Bool) → Value → Value → Value
better before values.Null y = y
better before x y = if option_map_or before (compared y x) false then y else x

-- the aggregate so far, and the value of one more row
abbrev pub gather : Fold → Value → Value → Result Value SqlFault
gather aggregates.Sum x y = added x y
gather aggregates.Min x y = Ok (better is_lt x y)
gather aggregates.Max x y = Ok (better is_gt x y)

-- row by row: an overflow of a part of a sum comes before what a later row is refused
unfoldable pub gathered : Fold → Value → List (Result Value SqlFault) → Result Value SqlFault
gathered f so_far [] = Ok so_far
gathered f so_far (r ∷ rs) = r >>= λ y. gather f so_far y >>= λ s. gathered f s rs
