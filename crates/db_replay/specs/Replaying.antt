-- The tables after a commit, where they fit.
use Rattle.std.specs.Prelude.{Bool, IsTrue, Option, Some, None, if◌then◌else◌}
use Rattle.std.specs.List.{list_all}
use Rattle.meaning_areas.specs.Commits.{columns_stand}
use Rattle.meaning_tables.specs.Fits.{fits}
use Rattle.meaning_tables.specs.Tables.{Tables}

abbrev pub fitted : Option Tables → Option Tables
fitted None = None
fitted (Some tables) = if fits tables then Some tables else None

-- CREATE TABLE could have made the columns of each table
abbrev pub columns_stand_in : Tables → Bool
columns_stand_in tables = list_all (λ t. columns_stand t.1.columns) tables

abbrev pub ColumnsStand : Tables → Type 0
ColumnsStand tables = IsTrue (columns_stand_in tables)
