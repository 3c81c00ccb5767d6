-- A number of 64 bits, by the test and by the fact.
use Rattle.std.proofs.Common.{◌≡◌, ◌^◌, Bool, true, false, cond, refl, ap, arith, Ok, Err, ℤ, pos, negsuc}
use Rattle.std.specs.Int.{w64}
use Rattle.std.specs.Prelude.{FitsSigned, nat_lt}
use Rattle.std.proofs.lemmas.Bool.Decides.{nat_tests}
use Rattle.std.proofs.lemmas.Bool.{ltb-true}
use Rattle.meaning_sql.specs.Operators.{fits_i64, whole}
use Rattle.dl_base.specs.declared.sql_fault.SqlFault.TheVariants as faults
use Rattle.dl_base.specs.declared.value.Value.{Value}
use Rattle.dl_base.specs.declared.value.Value.TheVariants as values

fits_here : (z : ℤ) → FitsSigned w64 z → fits_i64 z ≡ true
fits_here (pos n) h = let f = h.sfits in grind (arith, nat_tests)
fits_here (negsuc n) h = let f = h.sfits in grind (arith, nat_tests)

no_fit : (b : Bool) → (b ≡ true → ⊥) → b ≡ false
no_fit true h = absurd (h refl)
no_fit false h = refl

fits_not : (z : ℤ) → (FitsSigned w64 z → ⊥) → fits_i64 z ≡ false
fits_not (pos n) h = no_fit (nat_lt n (2 ^ 63)) (λ e. h (record { sfits = ltb-true n (2 ^ 63) e }))
fits_not (negsuc n) h = no_fit (nat_lt n (2 ^ 63)) (λ e. h (record { sfits = let l = ltb-true n (2 ^ 63) e in omega arith }))

pub whole_fits : (z : ℤ) → FitsSigned w64 z → whole z ≡ Ok (values.Int z)
whole_fits z h = ap (λ (b : Bool). cond b (Ok (values.Int z)) (Err faults.Overflow)) (fits_here z h)

pub whole_over : (z : ℤ) → (FitsSigned w64 z → ⊥) → whole z ≡ Err faults.Overflow
whole_over z h = ap (λ (b : Bool). cond b (Ok (values.Int z)) (Err faults.Overflow)) (fits_not z h)

by_test : (b : Bool) (x : Value) → cond b (Ok x) (Err faults.Overflow) ≡ Err faults.Memory → ⊥
by_test true x h = absurd (cc)
by_test false x h = absurd (cc)

pub whole_or_overflow : (z : ℤ) → whole z ≡ Err faults.Memory → ⊥
whole_or_overflow z h = by_test (fits_i64 z) (values.Int z) h

pub ruleset fitting = (whole_fits, whole_over)
