-- Records that are appended one after another, and what lists stand for wherever that is stopped.
use Rattle.std.specs.Prelude.{◌≡◌, ◌+◌, List, [], ◌∷◌, ◌++◌, Some}
use Rattle.meaning_areas.specs.Lists.{Folds, Written, folds_on}
use Rattle.meaning_areas.specs.Stands.{IsStand, Stored}

-- EACH FRONT of some records is taken, and the lists behind it stand for this
abbrev pub FrontsStand : Folds → List Written → Stored → Type 0
FrontsStand f xs x = (front rest : List Written) → front ++ rest ≡ xs → (later : Folds) × (folds_on (Some f) front ≡ Some later) × IsStand later x

-- a stored part with the next opening number of Rows, and of Links

abbrev pub next_rows : Stored → Stored
next_rows x = record x { rows_opening = x.rows_opening + 1 }

abbrev pub next_links : Stored → Stored
next_links x = record x { links_opening = x.links_opening + 1 }

-- WHAT A FRONT OF AN OPENING leads to: its first record counts the opening of Rows, its second that of Links, and all behind them
-- leave the stored part as it is
abbrev pub opened_by : Stored → List Written → Stored
opened_by x [] = x
opened_by x (rows ∷ []) = next_rows x
opened_by x (rows ∷ links ∷ more) = next_links (next_rows x)

-- a stored part without its opening numbers
abbrev pub without_openings : Stored → Stored
without_openings x = record x { rows_opening = 0; links_opening = 0 }
