-- What the columns of a table are seen as.
use Rattle.std.specs.Prelude.{List}
use Rattle.dl_base.specs.declared.column.Column.{Column}
use Rattle.sql_table.specs.declared.columns.Held.{Held}
use Rattle.sql_table.specs.declared.columns.Held.TheVariants.{Own, Shared}

abbrev pub list_of : Held → List Column
list_of (Own list) = list
list_of (Shared list) = list.value
