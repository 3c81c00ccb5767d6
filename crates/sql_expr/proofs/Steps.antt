-- What is known of a step that was not refused.
use Rattle.std.proofs.Common.{◌≡◌, Bool, true, false, Result, Ok, Err, refl}
use Rattle.std.specs.Prelude.{is_err}
use Rattle.dl_base.specs.declared.sql_fault.SqlFault.{SqlFault}
use Rattle.dl_base.specs.declared.value.Value.{Value}
use Rattle.meaning_sql.specs.declared.SqlType.{SqlType}
use Rattle.meaning_sql.specs.Faults.{◌>>=◌, typed}
use Rattle.meaning_sql.specs.Fitting.{IsTyped, is_of_type}

-- a step and another give y: the first gives some x, of which the other gives y
pub record Passed {A B : Type 0} (m : Result A SqlFault) (f : A → Result B SqlFault) (y : B) : Type 0 where
  pub x : A
  pub first : m ≡ Ok x
  pub second : f x ≡ Ok y

pub passed : {A B : Type 0} (m : Result A SqlFault) (f : A → Result B SqlFault) (y : B) → (m >>= f) ≡ Ok y → Passed m f y
passed (Ok x) f y h = record { x = x; first = refl; second = h }
passed (Err e) f y h = absurd (cc)

pub record Held {A : Type 0} (b : Bool) (x y : A) : Type 0 where
  pub test : b ≡ true
  pub same : x ≡ y

pub held : {A : Type 0} (b : Bool) (x y : A) → typed b x ≡ Ok y → Held b x y
held true x y h = record { test = refl; same = cc }
held false x y h = absurd (cc)

-- a step on a value of a type, which gives values of another one
pub then_typed : (t u : SqlType) (m : Result Value SqlFault) (f : Value → Result Value SqlFault)
    → IsTyped t m → ((x : Value) → is_of_type t x ≡ true → IsTyped u (f x)) → IsTyped u (m >>= f)
then_typed t u (Ok x) f h step = step x h
then_typed t u (Err e) f h step = h

-- a step that is refused, and what follows it
pub refused_first : {A B : Type 0} (m : Result A SqlFault) (f : A → Result B SqlFault) → is_err m ≡ true → is_err (m >>= f) ≡ true
refused_first (Err e) f failed = refl
refused_first (Ok x) f failed = absurd (cc)

-- the same where the second step is refused, or the third
pub refused_second : {A B C : Type 0} (m : Result A SqlFault) (n : Result B SqlFault) (f : A → B → Result C SqlFault) → is_err n ≡ true → is_err (m >>= λ x. n >>= f x) ≡ true
refused_second (Err e) n f failed = refl
refused_second (Ok x) n f failed = refused_first n (f x) failed

pub refused_third : {A B C D : Type 0} (m : Result A SqlFault) (n : Result B SqlFault) (o : Result C SqlFault) (f : A → B → C → Result D SqlFault) → is_err o ≡ true
    → is_err (m >>= λ x. n >>= λ y. o >>= f x y) ≡ true
refused_third (Err e) n o f failed = refl
refused_third (Ok x) n o f failed = refused_second n o (f x) failed
