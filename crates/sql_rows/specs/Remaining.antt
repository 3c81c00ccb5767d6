-- What a DELETE leaves of a table.
use Rattle.meaning_tables.specs.Tables.{Rows, without_row}
use Rattle.sql_rows.specs.declared.rows.Remainder.{Remainder}
use Rattle.sql_rows.specs.declared.rows.Remainder.TheVariants as remainders

-- the table that stands for it, of the table that there was
abbrev pub remainder_of : Rows → Remainder → Rows
remainder_of t (remainders.Another made) = made
remainder_of t (remainders.Without number) = record t { rows = without_row t.rows number }
remainder_of t remainders.Same = t
