-- What the first refusal of a step on each says of the steps one after the other.
use Rattle.std.proofs.Common.{◌≡◌, Bool, true, List, [], ◌∷◌, Result, Ok, Err, refl}
use Rattle.std.specs.List.{zip}
use Rattle.std.specs.Prelude.{is_ok}
use Rattle.dl_base.specs.declared.sql_fault.SqlFault.{SqlFault}
use Rattle.meaning_sql.specs.Faults.{◌>>=◌, and_then, try_map}
use Rattle.sql_change.specs.Steps.{cleared}

-- a step that gives something, and another that does not look at it
pub passing : {A B : Type 0} (m : Result A SqlFault) (rest : Result B SqlFault) → is_ok m ≡ true → and_then m (λ x. rest) ≡ rest
passing (Ok x) rest passes = refl
passing (Err e) rest passes = cc passes

more_pass : {A : Type 0} (y : A) (m : Result (List A) SqlFault) → is_ok m ≡ true → is_ok (m >>= λ ys. Ok (y ∷ ys)) ≡ true
more_pass y (Ok ys) passes = refl
more_pass y (Err e) passes = cc passes

first_passes : {B : Type 0} (m : Result B SqlFault) (rest : Result Bool SqlFault) (later : Result (List B) SqlFault)
    → (m >>= λ y. rest) ≡ Ok true → (rest ≡ Ok true → is_ok later ≡ true) → is_ok (m >>= λ y. later >>= λ ys. Ok (y ∷ ys)) ≡ true
first_passes (Ok y) rest later all then = more_pass y later (then all)
first_passes (Err e) rest later all then = cc all

-- none is refused
pub pass_each : {A B : Type 0} (f : A → Result B SqlFault) (xs : List A) → cleared f xs ≡ Ok true → is_ok (try_map f xs) ≡ true
pass_each f [] all = refl
pass_each f (x ∷ xs) all = first_passes (f x) (cleared f xs) (try_map f xs) all (pass_each f xs)

more_stop : {A : Type 0} (y : A) (m : Result (List A) SqlFault) (e : SqlFault) → m ≡ Err e → (m >>= λ ys. Ok (y ∷ ys)) ≡ Err e
more_stop y m e is = rw is refl

first_stops : {B : Type 0} (m : Result B SqlFault) (rest : Result Bool SqlFault) (later : Result (List B) SqlFault) (e : SqlFault)
    → (m >>= λ y. rest) ≡ Err e → (rest ≡ Err e → later ≡ Err e) → (m >>= λ y. later >>= λ ys. Ok (y ∷ ys)) ≡ Err e
first_stops (Ok y) rest later e stop then = more_stop y later e (then stop)
first_stops (Err d) rest later e stop then = cc stop

-- the first refusal is that of the steps
pub stop_each : {A B : Type 0} (f : A → Result B SqlFault) (xs : List A) (e : SqlFault) → cleared f xs ≡ Err e → try_map f xs ≡ Err e
stop_each f [] e stop = cc stop
stop_each f (x ∷ xs) e stop = first_stops (f x) (cleared f xs) (try_map f xs) e stop (stop_each f xs e)

pub zip_none : {A B : Type 0} (xs : List A) (ys : List B) → ys ≡ [] → zip xs ys ≡ []
zip_none [] ys none = refl
zip_none (x ∷ xs) ys none = rw none refl

-- the step on the first of them is refused
pub stops_first : {A B : Type 0} (f : A → Result B SqlFault) (x : A) (xs : List A) (e : SqlFault) → f x ≡ Err e → cleared f (x ∷ xs) ≡ Err e
stops_first f x xs e is = rw is refl
