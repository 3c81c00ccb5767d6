-- The steps of an opening and of an append.
use Rattle.std.specs.Prelude.{◌≡◌, ◌≢◌, ℕ, ◌<◌, ◌^◌, List, [], ◌∷◌, ◌++◌, length, false, Option, Some}
use Rattle.std.specs.Int.{to_be_bytes, w64}
use Rattle.dl_journal.specs.Records.{blocks, size, is_whole, IsAtRest, AllAtRest, HasOldOrNew}

-- the list, with one more record behind its closed gate, and a closed gate behind that
pub record IsStaged (bodies : List (List ℕ)) (body bytes : List ℕ) : Type 0 where
  pub fits : size (bodies ++ body ∷ []) < 2 ^ 63
  pub gate : ℕ
  pub rest : List ℕ
  pub closed : gate ≢ 1
  pub is : bytes ≡ blocks bodies ++ gate ∷ (to_be_bytes w64 (length body) ++ (body ++ 0 ∷ rest))

abbrev pub AllStaged : List (List ℕ) → List ℕ → (List ℕ → Type 0) → Type 0
AllStaged bodies body image = (c : List ℕ) → image c → IsStaged bodies body c

-- it is each list that every image was
abbrev pub StillAtRest : (List ℕ → Type 0) → ℕ → List ℕ → Type 0
StillAtRest image place c = (bodies : List (List ℕ)) → size bodies ≡ place → AllAtRest bodies image → IsAtRest bodies c

-- it is each list that every image had staged with a body, without that body or with it
abbrev pub HasGateTorn : (List ℕ → Type 0) → ℕ → List ℕ → Type 0
HasGateTorn image place c = (bodies : List (List ℕ)) (body : List ℕ) → size bodies ≡ place → AllStaged bodies body image → HasOldOrNew bodies body c

-- records with these bodies, and then an open gate with no whole record
pub record IsBad (bodies : List (List ℕ)) (bytes : List ℕ) : Type 0 where
  pub behind : List ℕ
  pub cut_short : is_whole behind ≡ false
  pub is : bytes ≡ blocks bodies ++ 1 ∷ behind

-- an area that is the empty list, whatever its byte
abbrev pub IsShort : List ℕ → Type 0
IsShort c = length c < 2

-- these bytes are what an area reads, where that is told
abbrev pub HasRead : List ℕ → Option (List ℕ) → Type 0
HasRead bytes reads = (told : List ℕ) → reads ≡ Some told → bytes ≡ told
