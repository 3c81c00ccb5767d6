-- What is known of steps that were not refused.
use Rattle.std.proofs.Common.{◌≡◌, Bool, true, false, Result, Ok, Err, if◌then◌else◌, refl}
use Rattle.dl_base.specs.declared.sql_fault.SqlFault.{SqlFault}
use Rattle.meaning_sql.specs.Faults.{◌>>=◌}

-- A step and another give y: the first gives some x, of which the other gives y. What follows from both.
pub go_on : {A B P : Type 0} {f : A → Result B SqlFault} {y : B} (m : Result A SqlFault) → (m >>= f) ≡ Ok y → ((x : A) → m ≡ Ok x → f x ≡ Ok y → P) → P
go_on (Ok x) h goes = goes x refl h
go_on (Err e) h goes = absurd (cc)

-- a test that gives y: it holds
pub record Held {A : Type 0} (b : Bool) (x y : A) : Type 0 where
  pub test : b ≡ true
  pub same : x ≡ y

pub held : {A : Type 0} (b : Bool) (x y : A) (e : SqlFault) → (if b then Ok x else Err e) ≡ Ok y → Held b x y
held true x y e h = record { test = refl; same = cc }
held false x y e h = absurd (cc)

abbrev pub ok : {A : Type 0} → A → Result A SqlFault
ok x = Ok x

pub given : {A : Type 0} (x y : A) → ok x ≡ Ok y → x ≡ y
given x y h = cc
