-- The bytes of an area as a list of records. What a record stores is its body, a list of bytes.
use Rattle.std.specs.Prelude.{◌≡◌, ◌≢◌, ◌⊎◌, ℕ, zero, suc, ◌+◌, ◌<◌, ◌^◌, List, [], ◌∷◌, ◌++◌, length, take, drop, get_or, Bool, nat_lt, ◌==◌, if◌then◌else◌, Result, Ok, Err}
use Rattle.std.specs.Int.{to_be_bytes, from_be_bytes, w64}

-- a record with this body: an open gate, the body's length in eight bytes, the highest first, and the body
abbrev pub block : List ℕ → List ℕ
block body = 1 ∷ (to_be_bytes w64 (length body) ++ body)

-- the records with these bodies, one behind the other
abbrev pub blocks : List (List ℕ) → List ℕ
blocks [] = []
blocks (body ∷ bodies) = block body ++ blocks bodies

-- how many bytes those records are
abbrev pub size : List (List ℕ) → ℕ
size [] = 0
size (body ∷ bodies) = 9 + length body + size bodies

-- An area that begins with the records with these bodies, and a closed gate behind them. Any bytes may follow.
-- It has one proof at most, so that a type may keep it.
pub record IsAtRest (bodies : List (List ℕ)) (bytes : List ℕ) : Type 0 where
  pub fits : size bodies < 2 ^ 63
  pub front : take (size bodies) bytes ≡ blocks bodies
  pub more : size bodies < length bytes
  pub closed : get_or bytes (size bodies) 0 ≢ 1

-- the body's length, as the first eight of the bytes behind a gate tell it
abbrev pub told_length : List ℕ → ℕ
told_length behind = from_be_bytes w64 (take 8 behind)

-- behind a gate stand the length, the body and a byte more
abbrev pub is_whole : List ℕ → Bool
is_whole behind = nat_lt (8 + told_length behind) (length behind)

-- these bodies with one before them, or the same place
abbrev pub with_first : List ℕ → Result (List (List ℕ)) ℕ → Result (List (List ℕ)) ℕ
with_first body (Ok bodies) = Ok (body ∷ bodies)
with_first body (Err place) = Err place

-- The bodies from the gate at this place on, or the place of the first bad record's gate.
-- The first number is how many records there may be.
unfoldable pub records_from : ℕ → ℕ → List ℕ → Result (List (List ℕ)) ℕ
records_from zero place bytes = Ok []
records_from (suc most) place [] = Ok []
records_from (suc most) place (gate ∷ behind) =
    if gate == 1
    then (if is_whole behind
    then with_first (take (told_length behind) (drop 8 behind)) (records_from most (place + 9 + told_length behind) (drop (8 + told_length behind) behind))
    else Err place)
    else Ok []

-- The bodies of an area, or the place of the first bad record's gate, from 0. With less than two bytes an area is the empty list.
unfoldable pub records : List ℕ → Result (List (List ℕ)) ℕ
records bytes = if nat_lt (length bytes) 2 then Ok [] else records_from (length bytes) 0 bytes

-- whatever a crash leaves is this list
abbrev pub AllAtRest : List (List ℕ) → (List ℕ → Type 0) → Type 0
AllAtRest bodies image = (c : List ℕ) → image c → IsAtRest bodies c

-- the list without one more body, or with it
abbrev pub HasOldOrNew : List (List ℕ) → List ℕ → List ℕ → Type 0
HasOldOrNew bodies body c = IsAtRest bodies c ⊎ IsAtRest (bodies ++ body ∷ []) c
