-- Steps that take no memory are never refused for want of it.
use Rattle.std.proofs.Common.{◌≡◌, Bool, true, false, cond, Option, Some, None, Result, Ok, Err, ℤ, ◌+ℤ◌, ◌-ℤ◌, ◌*ℤ◌}
use Rattle.std.specs.Prelude.{int_div}
use Rattle.dl_base.specs.declared.sql_fault.SqlFault.{SqlFault}
use Rattle.dl_base.specs.declared.sql_fault.SqlFault.TheVariants as faults
use Rattle.dl_base.specs.declared.value.Value.{Value}
use Rattle.dl_base.specs.declared.value.Value.TheVariants as values
use Rattle.dl_base.specs.declared.statement.Op.{Op}
use Rattle.dl_base.specs.declared.statement.Op.TheVariants as ops
use Rattle.meaning_sql.specs.Operators.{and_of, binary, fits_i64, is_zero, on_ints, or_of, quotient, truth_of, whole}

by_test : (b : Bool) (x : Value) → cond b (Ok x) (Err faults.Overflow) ≡ Err faults.Memory → ⊥
by_test true x h = absurd (cc)
by_test false x h = absurd (cc)

of_whole : (z : ℤ) → whole z ≡ Err faults.Memory → ⊥
of_whole z h = by_test (fits_i64 z) (values.Int z) h

by_zero : (b : Bool) (z : ℤ) → cond b (Err faults.ZeroDivide) (whole z) ≡ Err faults.Memory → ⊥
by_zero true z h = absurd (cc)
by_zero false z h = of_whole z h

of_ints : (f : ℤ → ℤ → Result Value SqlFault) (x y : Value) → ((a b : ℤ) → f a b ≡ Err faults.Memory → ⊥) → on_ints f x y ≡ Err faults.Memory → ⊥
of_ints f (values.Int a) (values.Int b) never h = never a b h
of_ints f (values.Int a) values.Null never h = absurd (cc)
of_ints f (values.Int a) (values.Text t) never h = absurd (cc)
of_ints f (values.Int a) (values.Link d) never h = absurd (cc)
of_ints f values.Null y never h = absurd (cc)
of_ints f (values.Text t) y never h = absurd (cc)
of_ints f (values.Link d) y never h = absurd (cc)

pub of_binary : (op : Op) (x y : Value) → binary op x (Ok y) ≡ Err faults.Memory → ⊥
unfolding binary
of_binary ops.Or x y h = by (truth_of x) h
  where
    by : (p : Option Bool) → or_of p (Ok y) ≡ Err faults.Memory → ⊥
    by (Some true) e = absurd (cc)
    by (Some false) e = absurd (cc)
    by None e = absurd (cc)
of_binary ops.And x y h = by (truth_of x) h
  where
    by : (p : Option Bool) → and_of p (Ok y) ≡ Err faults.Memory → ⊥
    by (Some true) e = absurd (cc)
    by (Some false) e = absurd (cc)
    by None e = absurd (cc)
of_binary ops.Eq x y h = absurd (cc)
of_binary ops.Ne x y h = absurd (cc)
of_binary ops.Lt x y h = absurd (cc)
of_binary ops.Le x y h = absurd (cc)
of_binary ops.Gt x y h = absurd (cc)
of_binary ops.Ge x y h = absurd (cc)
of_binary ops.Add x y h = of_ints (λ a b. whole (a +ℤ b)) x y (λ a b e. of_whole (a +ℤ b) e) h
of_binary ops.Sub x y h = of_ints (λ a b. whole (a -ℤ b)) x y (λ a b e. of_whole (a -ℤ b) e) h
of_binary ops.Mul x y h = of_ints (λ a b. whole (a *ℤ b)) x y (λ a b e. of_whole (a *ℤ b) e) h
of_binary ops.Div x y h = of_ints quotient x y (λ a b e. by_zero (is_zero b) (int_div a b) e) h
