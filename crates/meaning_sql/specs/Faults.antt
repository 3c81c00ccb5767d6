-- Steps that may be refused, and what a call gives where memory may run out.
use Rattle.std.specs.Prelude.{◌≡◌, ◌≢◌, Bool, true, List, [], ◌∷◌, Option, Some, None, Result, Ok, Err, if◌then◌else◌}
use Rattle.dl_base.specs.declared.sql_fault.SqlFault.{SqlFault}
use Rattle.dl_base.specs.declared.sql_fault.SqlFault.TheVariants as faults

-- a step, and then another on what the first one gave; the first refusal is the answer
infixl 10 ◌>>=◌
abbrev pub ◌>>=◌ : {A B : Type 0} → Result A SqlFault → (A → Result B SqlFault) → Result B SqlFault
(Ok x) >>= f = f x
(Err e) >>= f = Err e

-- the same, under a word that clauses can write
abbrev pub and_then : {A B : Type 0} → Result A SqlFault → (A → Result B SqlFault) → Result B SqlFault
and_then m f = m >>= f

-- x where the test holds, else a breach of the rules of types
abbrev pub typed : {A : Type 0} → Bool → A → Result A SqlFault
typed holds x = if holds then Ok x else Err faults.TypeFault

-- the fault where the test does not hold
abbrev pub ensure : Bool → SqlFault → Result Bool SqlFault
ensure holds fault = if holds then Ok true else Err fault

abbrev pub option_list : {A : Type 0} → Option A → List A
option_list (Some x) = x ∷ []
option_list None = []

-- f of each in order, up to the first refusal
abbrev pub try_map : {A B : Type 0} → (A → Result B SqlFault) → List A → Result (List B) SqlFault
try_map f [] = Ok []
try_map f (x ∷ xs) = f x >>= λ y. try_map f xs >>= λ ys. Ok (y ∷ ys)

-- those that pass, in order, up to the first refusal
abbrev pub try_filter : {A : Type 0} → (A → Result Bool SqlFault) → List A → Result (List A) SqlFault
try_filter passes [] = Ok []
try_filter passes (x ∷ xs) = passes x >>= λ b. try_filter passes xs >>= λ ys. Ok (if b then x ∷ ys else ys)

-- what a call returned, seen by view, is what the meaning gives, unless memory ran out
abbrev pub Computes : {X Y : Type 0} → (X → Y) → Result X SqlFault → Result Y SqlFault → Type 0
Computes view (Ok x) meaning = meaning ≡ Ok (view x)
Computes view (Err e) meaning = e ≢ faults.Memory → meaning ≡ Err e

-- a call that was handed x returned what step makes of x, whatever meaning x gives
abbrev pub ComputesAfter : {X Y : Type 0} → Result X SqlFault → (X → Result Y SqlFault) → Result Y SqlFault → Type 0
ComputesAfter {X} x step result = (m : Result X SqlFault) → Computes (λ v. v) x m → Computes (λ v. v) result (m >>= step)
