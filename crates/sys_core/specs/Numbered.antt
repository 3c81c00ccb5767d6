-- The link of a number among those of rows and tables.
use Rattle.std.specs.Prelude.{Bool, List, Option, Some, None}
use Rattle.std.specs.List.{find}
use Rattle.dl_base.specs.declared.column.Column.{Column}
use Rattle.dl_base.specs.declared.value.LinkNo.{LinkNo}
use Rattle.dl_base.specs.declared.value.LinkRow.{LinkRow}
use Rattle.dl_base.specs.declared.value.Row.{Row}
use Rattle.meaning_tables.specs.Links.{row_links, same_number}

-- a link has this number
abbrev pub of_number : LinkNo → LinkRow → Bool
of_number n l = same_number n l.link

-- the first link of a row that has it, where there is a row
abbrev pub numbered_in : LinkNo → List Column → Option Row → Option LinkRow
numbered_in n columns None = None
numbered_in n columns (Some row) = find (of_number n) (row_links columns row.values)
