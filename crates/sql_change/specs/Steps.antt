-- Steps of which only the refusal counts: of a proof, which nobody need read. `cleared` is refused where `try_map` is.
use Rattle.std.specs.Prelude.{◌≡◌, Bool, true, List, [], ◌∷◌, Result, Ok, Err, is_ok}
use Rattle.dl_base.specs.declared.sql_fault.SqlFault.{SqlFault}
use Rattle.meaning_sql.specs.Faults.{◌>>=◌}

-- a call, which takes no memory, was refused as the meaning is, or the meaning gives something
abbrev pub Clears : {X Y : Type 0} → Result X SqlFault → Result Y SqlFault → Type 0
Clears (Ok x) meaning = is_ok meaning ≡ true
Clears (Err e) meaning = meaning ≡ Err e

-- the first refusal of a step on each
abbrev pub cleared : {A B : Type 0} → (A → Result B SqlFault) → List A → Result Bool SqlFault
cleared f [] = Ok true
cleared f (x ∷ xs) = f x >>= λ y. cleared f xs
