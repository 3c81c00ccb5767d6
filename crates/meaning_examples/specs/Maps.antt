-- Sorted lists of entries, in the place of the library's finite maps: these compute.
use Rattle.std.specs.Prelude.{ℕ, Bool, not, List, [], ◌∷◌, length, map, Option}
use Rattle.std.specs.List.{filter}
use Rattle.std.specs.Ordering.{eq_by_cmp}
use Rattle.std.specs.declared.cmp.Ordering.{Ordering}
use Rattle.std.specs.FinMap.{find}
use Rattle.std.specs.declared.cmp.Ordering.TheVariants.{Less, Equal, Greater}

abbrev pub by_order : {A : Type 0} → Ordering → A → A → A → A
by_order Less a b c = a
by_order Equal a b c = b
by_order Greater a b c = c

abbrev pub put : {K X : Type 0} → (K → K → Ordering) → K → X → List (K × X) → List (K × X)
put R k v [] = (k, v) ∷ []
put R k v (e ∷ es) = by_order (R k e.0) ((k, v) ∷ e ∷ es) ((e.0, v) ∷ es) (e ∷ put R k v es)

pub record FinMap {K : Type 0} (R : K → K → Ordering) (X : Type 0) : Type 0 where
  pub list : List (K × X)

module _ {K X : Type 0} {R : K → K → Ordering} where
  abbrev pub entries : FinMap R X → List (K × X)
  entries m = m.list

  abbrev pub keys : FinMap R X → List K
  keys m = map (λ e. e.0) m.list

  abbrev pub empty : FinMap R X
  empty = record { list = [] }

  abbrev pub get : FinMap R X → K → Option X
  get m q = find R q m.list

  abbrev pub insert : FinMap R X → K → X → FinMap R X
  insert m k v = record { list = put R k v m.list }

  abbrev pub remove : FinMap R X → K → FinMap R X
  remove m k = record { list = filter (λ e. not (eq_by_cmp R k e.0)) m.list }

  abbrev pub retain_keys : FinMap R X → (K → Bool) → FinMap R X
  retain_keys m p = record { list = filter (λ e. p e.0) m.list }

  abbrev pub len : FinMap R X → ℕ
  len m = length m.list
