-- The reader: what a function that reads at a place returned.
use Rattle.std.specs.Prelude.{◌≡◌, ℕ, Result, Ok, Err}
use Rattle.sql_precedence.specs.declared.refused.Refused.{Refused}
use Rattle.sql_precedence.specs.declared.refused.Refused.TheVariants as refused

abbrev pub FailsReading : {X : Type 0} → Refused → Result X ℕ → Type 0
FailsReading (refused.Syntax k) read = read ≡ Err k
FailsReading refused.Memory read = Unit {0}

-- what a function returned is what reading gives, unless memory ran out
abbrev pub AnswersReading : {X : Type 0} → Result X Refused → Result X ℕ → Type 0
AnswersReading (Ok x) read = read ≡ Ok x
AnswersReading (Err e) read = FailsReading e read

-- what a function that takes no memory returned is what reading gives
abbrev pub SettlesReading : {X : Type 0} → Result X Refused → Result X ℕ → Type 0
SettlesReading (Ok x) read = read ≡ Ok x
SettlesReading (Err (refused.Syntax k)) read = read ≡ Err k
SettlesReading (Err refused.Memory) read = ⊥
