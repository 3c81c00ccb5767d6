-- Sets: lists of items in order, each once.
use Rattle.std.specs.Prelude.{◌≡◌, ◌&&◌, ◌||◌, Bool, false, not, List, Option, Some, None}
use Rattle.std.specs.List.{list_any}
use Rattle.std.specs.List.Sorted.{IsStrictlySortedBy}
use Rattle.std.specs.Ordering.{is_eq}
use Rattle.std.specs.declared.cmp.Ordering.{Ordering}

-- whether a list has one equal to this
abbrev pub has : {T : Type 0} → (T → T → Ordering) → List T → T → Bool
has order xs q = list_any (λ x. is_eq (order q x)) xs

-- a list in order that has one more
pub record WithMember {T : Type 0} (order : T → T → Ordering) (old new : List T) (item : T) : Type 0 where
  pub sorted : IsStrictlySortedBy order new
  pub each : (q : T) → has order new q ≡ (is_eq (order q item) || has order old q)

-- a list in order that has one less
pub record WithoutMember {T : Type 0} (order : T → T → Ordering) (old new : List T) (item : T) : Type 0 where
  pub sorted : IsStrictlySortedBy order new
  pub each : (q : T) → has order new q ≡ (not (is_eq (order q item)) && has order old q)

-- whether one equal to this has been found
abbrev pub is_at : {T : Type 0} → (T → T → Ordering) → T → Option T → Bool
is_at order item None = false
is_at order item (Some x) = is_eq (order item x)
