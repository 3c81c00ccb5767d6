-- The types of the values that operators, aggregates and datalinks make.
use Rattle.std.proofs.Common.{◌≡◌, ℕ, Bool, true, false, List, [], ◌∷◌, Option, Some, None, Result, Ok, Err, refl, sym, subst, ℤ, ◌+ℤ◌}
use Rattle.std.specs.Prelude.{if◌then◌else◌, int_div, nat_le, ◌-ℤ◌, ◌*ℤ◌, neg_ℤ, length}
use Rattle.std.specs.Ordering.{is_lt, is_le, is_gt, is_ge, is_eq, is_ne}
use Rattle.std.specs.declared.cmp.Ordering.{Ordering}
use Rattle.std.specs.Option.{option_map, option_map_or}
use Rattle.std.specs.List.{AllByRecursion}
use Rattle.dl_base.specs.declared.sql_fault.SqlFault.{SqlFault}
use Rattle.dl_base.specs.declared.sql_fault.SqlFault.TheVariants as faults
use Rattle.dl_base.specs.declared.sql_fault.BadLink.{BadLink}
use Rattle.dl_base.specs.declared.column.Kind.{Kind}
use Rattle.dl_base.specs.declared.column.Kind.TheVariants as kinds
use Rattle.dl_base.specs.declared.column.Options.{Options}
use Rattle.dl_base.specs.declared.value.Value.{Value}
use Rattle.dl_base.specs.declared.value.Value.TheVariants as values
use Rattle.dl_base.specs.declared.statement.Op.{Op}
use Rattle.dl_base.specs.declared.statement.Op.TheVariants as ops
use Rattle.dl_base.specs.declared.statement.Fold.{Fold}
use Rattle.dl_base.specs.declared.statement.Fold.TheVariants as aggregates
use Rattle.dl_base.specs.declared.statement.Part.{Part}
use Rattle.dl_location.specs.Location.{location}
use Rattle.meaning_sql.specs.declared.Context.{Context}
use Rattle.meaning_sql.specs.declared.SqlType.{SqlType}
use Rattle.meaning_sql.specs.declared.SqlType.TheVariants as types
use Rattle.meaning_sql.specs.Datalinks.{linked, datalink, accessed, is_url, comment_text}
use Rattle.meaning_sql.specs.Faults.{◌>>=◌}
use Rattle.meaning_sql.specs.Fitting.{IsTyped, is_of_type, fits_kind}
use Rattle.meaning_sql.specs.Operators.{of_truth, truth_of, and_of, or_of, and3, or3, whole, fits_i64, on_ints, quotient, is_zero, negated, truth_by, compared, binary, added, better, gather, gathered}
use Rattle.meaning_sql.specs.Types.{kind_type, is_int, binary_type, aggregate_type}
use Rattle.sql_expr.proofs.Steps.{held, then_typed}

pub null_typed : (t : SqlType) → is_of_type t values.Null ≡ true
null_typed types.Int = refl
null_typed types.Text = refl
null_typed types.Link = refl
null_typed types.Truth = refl
null_typed types.Null = refl

pub truth_typed : (p : Option Bool) → is_of_type types.Truth (of_truth p) ≡ true
unfolding of_truth
truth_typed (Some true) = refl
truth_typed (Some false) = refl
truth_typed None = refl

-- the values of a column's kind
pub cell_typed : (k : Kind) (x : Value) → fits_kind k x ≡ true → is_of_type (kind_type k) x ≡ true
cell_typed k values.Null h = null_typed (kind_type k)
cell_typed kinds.Int (values.Int z) h = refl
cell_typed kinds.Int (values.Text t) h = h
cell_typed kinds.Int (values.Link d) h = h
cell_typed (kinds.Text n) (values.Int z) h = h
cell_typed (kinds.Text n) (values.Text t) h = refl
cell_typed (kinds.Text n) (values.Link d) h = h
cell_typed kinds.Free (values.Int z) h = h
cell_typed kinds.Free (values.Text t) h = h
cell_typed kinds.Free (values.Link d) h = refl
cell_typed (kinds.Linked o) (values.Int z) h = h
cell_typed (kinds.Linked o) (values.Text t) h = h
cell_typed (kinds.Linked o) (values.Link d) h = refl

-- a value of a type that INTEGER takes is of type INTEGER
pub int_typed : (t : SqlType) (x : Value) → is_int t ≡ true → is_of_type t x ≡ true → is_of_type types.Int x ≡ true
int_typed types.Int x i h = h
int_typed types.Null values.Null i h = refl
int_typed types.Null (values.Int z) i h = refl
int_typed types.Null (values.Text t) i h = h
int_typed types.Null (values.Link d) i h = h
int_typed types.Text x i h = absurd (cc)
int_typed types.Link x i h = absurd (cc)
int_typed types.Truth x i h = absurd (cc)

whole_by : (b : Bool) (z : ℤ) → IsTyped types.Int (if b then Ok (values.Int z) else Err faults.Overflow)
whole_by true z = refl
whole_by false z = refl

pub whole_typed : (z : ℤ) → IsTyped types.Int (whole z)
whole_typed z = whole_by (fits_i64 z) z

quotient_by : (b : Bool) (m : Result Value SqlFault) → IsTyped types.Int m → IsTyped types.Int (if b then Err faults.ZeroDivide else m)
quotient_by true m h = refl
quotient_by false m h = h

pub on_ints_typed : (f : ℤ → ℤ → Result Value SqlFault) → ((a b : ℤ) → IsTyped types.Int (f a b)) → (x y : Value) → IsTyped types.Int (on_ints f x y)
on_ints_typed f h (values.Int a) (values.Int b) = h a b
on_ints_typed f h (values.Int a) values.Null = refl
on_ints_typed f h (values.Int a) (values.Text t) = refl
on_ints_typed f h (values.Int a) (values.Link d) = refl
on_ints_typed f h values.Null y = refl
on_ints_typed f h (values.Text t) y = refl
on_ints_typed f h (values.Link d) y = refl

pub negated_typed : (x : Value) → IsTyped types.Int (negated x)
unfolding negated
negated_typed (values.Int z) = whole_typed (neg_ℤ z)
negated_typed values.Null = refl
negated_typed (values.Text t) = refl
negated_typed (values.Link d) = refl

-- an operator whose right side gives values of a type

arithmetic_typed : (u : SqlType) (f : ℤ → ℤ → Result Value SqlFault) (x : Value) (r : Result Value SqlFault)
    → ((a b : ℤ) → IsTyped types.Int (f a b)) → IsTyped u r → IsTyped types.Int (r >>= on_ints f x)
arithmetic_typed u f x r h right = then_typed u types.Int r (on_ints f x) right (λ y _. on_ints_typed f h x y)

compared_typed : (u : SqlType) (test : Ordering → Bool) (x : Value) (r : Result Value SqlFault) → IsTyped u r → IsTyped types.Truth (r >>= truth_by test x)
compared_typed u test x r right = then_typed u types.Truth r (truth_by test x) right (λ y _. truth_typed (option_map test (compared x y)))

and_typed : (u : SqlType) (p : Option Bool) (r : Result Value SqlFault) → IsTyped u r → IsTyped types.Truth (and_of p r)
and_typed u (Some false) r right = truth_typed (Some false)
and_typed u (Some true) r right = then_typed u types.Truth r _ right (λ y _. truth_typed (and3 (Some true) (truth_of y)))
and_typed u None r right = then_typed u types.Truth r _ right (λ y _. truth_typed (and3 None (truth_of y)))

or_typed : (u : SqlType) (p : Option Bool) (r : Result Value SqlFault) → IsTyped u r → IsTyped types.Truth (or_of p r)
or_typed u (Some true) r right = truth_typed (Some true)
or_typed u (Some false) r right = then_typed u types.Truth r _ right (λ y _. truth_typed (or3 (Some false) (truth_of y)))
or_typed u None r right = then_typed u types.Truth r _ right (λ y _. truth_typed (or3 None (truth_of y)))

-- the type of an operator, whatever the test of its operands is
abbrev operator_type : Op → SqlType
operator_type ops.Or = types.Truth
operator_type ops.And = types.Truth
operator_type ops.Eq = types.Truth
operator_type ops.Ne = types.Truth
operator_type ops.Lt = types.Truth
operator_type ops.Le = types.Truth
operator_type ops.Gt = types.Truth
operator_type ops.Ge = types.Truth
operator_type ops.Add = types.Int
operator_type ops.Sub = types.Int
operator_type ops.Mul = types.Int
operator_type ops.Div = types.Int

of_operator : (op : Op) (t u v : SqlType) → binary_type op t u ≡ Ok v → operator_type op ≡ v
of_operator ops.Or t u v h = (held _ types.Truth v h).same
of_operator ops.And t u v h = (held _ types.Truth v h).same
of_operator ops.Eq t u v h = (held _ types.Truth v h).same
of_operator ops.Ne t u v h = (held _ types.Truth v h).same
of_operator ops.Lt t u v h = (held _ types.Truth v h).same
of_operator ops.Le t u v h = (held _ types.Truth v h).same
of_operator ops.Gt t u v h = (held _ types.Truth v h).same
of_operator ops.Ge t u v h = (held _ types.Truth v h).same
of_operator ops.Add t u v h = (held _ types.Int v h).same
of_operator ops.Sub t u v h = (held _ types.Int v h).same
of_operator ops.Mul t u v h = (held _ types.Int v h).same
of_operator ops.Div t u v h = (held _ types.Int v h).same

of_sides : (op : Op) (u : SqlType) (x : Value) (r : Result Value SqlFault) → IsTyped u r → IsTyped (operator_type op) (binary op x r)
unfolding binary
of_sides ops.Or u x r right = or_typed u (truth_of x) r right
of_sides ops.And u x r right = and_typed u (truth_of x) r right
of_sides ops.Eq u x r right = compared_typed u is_eq x r right
of_sides ops.Ne u x r right = compared_typed u is_ne x r right
of_sides ops.Lt u x r right = compared_typed u is_lt x r right
of_sides ops.Le u x r right = compared_typed u is_le x r right
of_sides ops.Gt u x r right = compared_typed u is_gt x r right
of_sides ops.Ge u x r right = compared_typed u is_ge x r right
of_sides ops.Add u x r right = arithmetic_typed u (λ a b. whole (a +ℤ b)) x r (λ a b. whole_typed (a +ℤ b)) right
of_sides ops.Sub u x r right = arithmetic_typed u (λ a b. whole (a -ℤ b)) x r (λ a b. whole_typed (a -ℤ b)) right
of_sides ops.Mul u x r right = arithmetic_typed u (λ a b. whole (a *ℤ b)) x r (λ a b. whole_typed (a *ℤ b)) right
of_sides ops.Div u x r right = arithmetic_typed u quotient x r (λ a b. quotient_by (is_zero b) (whole (int_div a b)) (whole_typed (int_div a b))) right

pub binary_typed : (op : Op) (t u v : SqlType) (x : Value) (r : Result Value SqlFault) → binary_type op t u ≡ Ok v → IsTyped u r → IsTyped v (binary op x r)
binary_typed op t u v x r h right = subst (λ (w : SqlType). IsTyped w (binary op x r)) (of_operator op t u v h) (of_sides op u x r right)

-- aggregates

added_typed : (x y : Value) → is_of_type types.Int x ≡ true → is_of_type types.Int y ≡ true → IsTyped types.Int (added x y)
added_typed values.Null y hx hy = hy
added_typed (values.Int a) values.Null hx hy = refl
added_typed (values.Int a) (values.Int b) hx hy = whole_typed (a +ℤ b)
added_typed (values.Int a) (values.Text t) hx hy = refl
added_typed (values.Int a) (values.Link d) hx hy = refl
added_typed (values.Text t) y hx hy = absurd (cc)
added_typed (values.Link d) y hx hy = absurd (cc)

either_typed : (t : SqlType) (b : Bool) (x y : Value) → is_of_type t x ≡ true → is_of_type t y ≡ true → is_of_type t (if b then y else x) ≡ true
either_typed t true x y hx hy = hy
either_typed t false x y hx hy = hx

better_typed : (t : SqlType) (before : Ordering → Bool) (x y : Value) → is_of_type t x ≡ true → is_of_type t y ≡ true → is_of_type t (better before x y) ≡ true
better_typed t before values.Null y hx hy = hy
better_typed t before (values.Int a) y hx hy = either_typed t (option_map_or before (compared y (values.Int a)) false) (values.Int a) y hx hy
better_typed t before (values.Text a) y hx hy = either_typed t (option_map_or before (compared y (values.Text a)) false) (values.Text a) y hx hy
better_typed t before (values.Link a) y hx hy = either_typed t (option_map_or before (compared y (values.Link a)) false) (values.Link a) y hx hy

gather_typed : (f : Fold) (t u : SqlType) (x y : Value) → aggregate_type f t ≡ Ok u → is_of_type u x ≡ true → is_of_type t y ≡ true → IsTyped u (gather f x y)
gather_typed aggregates.Sum t u x y h hx hy =
    let k = held (is_int t) types.Int u h in
    subst (λ (w : SqlType). IsTyped w (added x y)) k.same (added_typed x y (subst (λ (w : SqlType). is_of_type w x ≡ true) (sym k.same) hx) (int_typed t y k.test hy))
gather_typed aggregates.Min t u x y h hx hy = better_typed u is_lt x y hx (subst (λ (w : SqlType). is_of_type w y ≡ true) (held _ t u h).same hy)
gather_typed aggregates.Max t u x y h hx hy = better_typed u is_gt x y hx (subst (λ (w : SqlType). is_of_type w y ≡ true) (held _ t u h).same hy)

pub gathered_typed : (f : Fold) (t u : SqlType) (x : Value) (rs : List (Result Value SqlFault))
    → aggregate_type f t ≡ Ok u → is_of_type u x ≡ true → AllByRecursion (IsTyped t) rs → IsTyped u (gathered f x rs)
unfolding gathered
gathered_typed f t u x [] h hx all = hx
gathered_typed f t u x (r ∷ rs) h hx all =
    then_typed t u r _ all.0 (λ y hy. then_typed u u (gather f x y) _ (gather_typed f t u x y h hx hy) (λ s hs. gathered_typed f t u s rs h hs all.1))

-- datalinks

kept_by : (b : Bool) (d : Value) (why : BadLink) → is_of_type types.Link d ≡ true → IsTyped types.Link (if b then Ok d else Err (faults.BadLink why))
kept_by true d why h = h
kept_by false d why h = refl

linked_typed : (r : Result (List ℕ × List ℕ) BadLink) (url : Bool) (comment : List ℕ) → IsTyped types.Link (linked r url comment)
linked_typed (Err why) url comment = refl
linked_typed (Ok kept) false comment = refl
linked_typed (Ok kept) true comment = kept_by (nat_le (length comment) 200) _ _ refl

pub datalink_typed : (server : List ℕ) (x y z : Value) → IsTyped types.Link (datalink server x y z)
unfolding datalink
datalink_typed server (values.Text t) y z = linked_typed (location server t) (is_url y) (comment_text z)
datalink_typed server values.Null y z = refl
datalink_typed server (values.Int n) y z = refl
datalink_typed server (values.Link d) y z = refl

pub accessed_typed : (context : Context) (under : Option Options) (part : Part) (x : Value) → is_of_type types.Text (accessed context under part x) ≡ true
unfolding accessed
accessed_typed context under part (values.Link d) = refl
accessed_typed context under part values.Null = refl
accessed_typed context under part (values.Int n) = refl
accessed_typed context under part (values.Text t) = refl
