-- The numbers of links, as the keys of a set.
use Rattle.std.specs.Prelude.{◌≡◌, ℕ, Bool, nat_eq, List, is_some}
use Rattle.std.specs.Cmp.Lexicographic.{pointwise}
use Rattle.std.specs.List.{list_any}
use Rattle.dl_base.specs.declared.value.LinkRow.{LinkRow}
use Rattle.meaning_settling.specs.Settling.{numbered}

-- whether some keys have one among them
abbrev pub is_numbered : List (List ℕ) → List ℕ → Bool
is_numbered keys key = list_any (pointwise nat_eq key) keys

-- exactly the numbers of these links are keys
abbrev pub IsNumbersOf : List LinkRow → List (List ℕ) → Type 0
IsNumbersOf linked keys = (key : List ℕ) → is_numbered keys key ≡ is_some (numbered linked key)
