-- Small tables: what fits, what does not, and which link numbers are free.
use Rattle.std.proofs.Common.{◌≡◌, ℕ, true, false, List, [], ◌∷◌, Option, Some, None, refl, pos}
use Rattle.dl_base.specs.declared.column.Column.{Column}
use Rattle.dl_base.specs.declared.column.ColumnRule.{ColumnRule}
use Rattle.dl_base.specs.declared.column.ColumnRule.TheVariants as rules
use Rattle.dl_base.specs.declared.column.Kind.{Kind}
use Rattle.dl_base.specs.declared.column.Kind.TheVariants as kinds
use Rattle.dl_base.specs.declared.value.LinkNo.{LinkNo}
use Rattle.dl_base.specs.declared.value.Row.{Row}
use Rattle.dl_base.specs.declared.value.Value.{Value}
use Rattle.dl_base.specs.declared.value.Value.TheVariants as values
use Rattle.meaning_statements.specs.Creating.{db2_options}
use Rattle.meaning_tables.specs.Fits.{fits}
use Rattle.meaning_tables.specs.Tables.{Tables}
use Rattle.sql_invariants.specs.Free.{is_free}

abbrev column : ℕ → Kind → ColumnRule → Column
column letter kind rule = record { name = letter ∷ []; kind = kind; rule = rule }

-- one table, t
abbrev table : List Column → ℕ → List (ℕ × Row) → Tables
table columns next rows = (116 ∷ [], record { version = 0; columns = columns; next = next; rows = rows }) ∷ []

abbrev row : ℕ → Value → ℕ × Row
row number value = (number, record { values = value ∷ [] })

-- a datalink to the file of one letter
abbrev link : ℕ → Option LinkNo → Value
link letter number = values.Link (record { location = 104 ∷ []; path = 47 ∷ letter ∷ []; comment = []; link = number })

abbrev numbered : ℕ → ℕ → Option LinkNo
numbered tx k = Some (record { tx = tx; k = k })

abbrev linked : Column
linked = column 100 (kinds.Linked db2_options) rules.Plain

-- what fits

two_links : fits (table (linked ∷ []) 3 (row 1 (link 97 (numbered 5 1)) ∷ row 2 (link 98 (numbered 5 2)) ∷ [])) ≡ true
two_links = refl

one_number_twice : fits (table (linked ∷ []) 3 (row 1 (link 97 (numbered 5 1)) ∷ row 2 (link 98 (numbered 5 1)) ∷ [])) ≡ false
one_number_twice = refl

no_number : fits (table (linked ∷ []) 2 (row 1 (link 97 None) ∷ [])) ≡ false
no_number = refl

too_long : fits (table (column 118 (kinds.Text 1) rules.Plain ∷ []) 2 (row 1 (values.Text (97 ∷ 98 ∷ [])) ∷ [])) ≡ false
too_long = refl

one_key_twice : fits (table (column 107 kinds.Int rules.Key ∷ []) 3 (row 1 (values.Int (pos 7)) ∷ row 2 (values.Int (pos 7)) ∷ [])) ≡ false
one_key_twice = refl

null_key : fits (table (column 107 kinds.Int rules.Key ∷ []) 2 (row 1 values.Null ∷ [])) ≡ false
null_key = refl

free_from_two : is_free (table (linked ∷ []) 2 (row 1 (link 97 (numbered 5 1)) ∷ [])) 5 2 ≡ true
free_from_two = refl

not_free_from_one : is_free (table (linked ∷ []) 2 (row 1 (link 97 (numbered 5 1)) ∷ [])) 5 1 ≡ false
not_free_from_one = refl
