-- The bytes of an area: the bodies of its records, or the place of the first record that is none.
use Rattle.std.proofs.Common.{◌≡◌, ℕ, List, [], ◌∷◌, ◌++◌, map, Ok, Err, refl}
use Rattle.dl_journal.specs.Records.{records, records_from, size}

-- an open gate and a length below 256
abbrev head : ℕ → List ℕ
head length = 1 ∷ 0 ∷ 0 ∷ 0 ∷ 0 ∷ 0 ∷ 0 ∷ 0 ∷ length ∷ []

empty : map records ([] ∷ (1 ∷ []) ∷ (0 ∷ 1 ∷ 2 ∷ []) ∷ (2 ∷ 1 ∷ []) ∷ []) ≡ Ok [] ∷ Ok [] ∷ Ok [] ∷ Ok [] ∷ []
unfolding records records_from
empty = refl

-- a record without a body; one with two bytes and more behind the gate; and two records
read : map records ((head 0 ++ 0 ∷ []) ∷ (head 2 ++ 7 ∷ 8 ∷ 9 ∷ []) ∷ (head 1 ++ 5 ∷ head 2 ++ 7 ∷ 8 ∷ 0 ∷ 1 ∷ 1 ∷ []) ∷ [])
    ≡ Ok ([] ∷ []) ∷ Ok ((7 ∷ 8 ∷ []) ∷ []) ∷ Ok ((5 ∷ []) ∷ (7 ∷ 8 ∷ []) ∷ []) ∷ []
unfolding records records_from
read = refl

-- how long those areas are, without the gate behind the records
sizes : map size ([] ∷ ([] ∷ []) ∷ ((7 ∷ 8 ∷ []) ∷ []) ∷ ((5 ∷ []) ∷ (7 ∷ 8 ∷ []) ∷ []) ∷ []) ≡ 0 ∷ 9 ∷ 11 ∷ 21 ∷ []
sizes = refl

-- cut short in the length, behind it, behind the body, at a length that is too great, and in the second record
broken : map records (
    (1 ∷ 0 ∷ [])
    ∷ head 0
    ∷ (head 2 ++ 7 ∷ 8 ∷ [])
    ∷ (1 ∷ 1 ∷ 0 ∷ 0 ∷ 0 ∷ 0 ∷ 0 ∷ 0 ∷ 0 ∷ 7 ∷ 8 ∷ [])
    ∷ (head 1 ++ 5 ∷ head 2 ++ 7 ∷ 8 ∷ [])
    ∷ []
    ) ≡ Err 0 ∷ Err 0 ∷ Err 0 ∷ Err 0 ∷ Err 10 ∷ []
unfolding records records_from
broken = refl
