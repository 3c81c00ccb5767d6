-- Small tables: rows by number, by key and by link, tables by name, and the links that a copy gives and takes.
use Rattle.std.proofs.Common.{◌≡◌, ℕ, false, List, [], ◌∷◌, map, codes, Option, Some, None, insert, remove, slice_set, refl, pos}
use Rattle.dl_base.specs.declared.column.Column.{Column}
use Rattle.dl_base.specs.declared.column.ColumnRule.TheVariants as rules
use Rattle.dl_base.specs.declared.column.Kind.TheVariants as kinds
use Rattle.dl_base.specs.declared.column.OnUnlink.TheVariants as unlink
use Rattle.dl_base.specs.declared.column.ReadBy.TheVariants as read
use Rattle.dl_base.specs.declared.column.WriteBy.TheVariants as write
use Rattle.dl_base.specs.declared.value.LinkNo.{LinkNo}
use Rattle.dl_base.specs.declared.value.LinkRow.{LinkRow}
use Rattle.dl_base.specs.declared.value.Row.{Row}
use Rattle.dl_base.specs.declared.value.Value.{Value}
use Rattle.dl_base.specs.declared.value.Value.TheVariants as values
use Rattle.meaning_tables.specs.First.{first_number, has_key, has_link}
use Rattle.meaning_tables.specs.Links.{links, gives, takes}
use Rattle.meaning_tables.specs.Tables.{Rows, Tables, row_of, with_row, without_row, new_table, with_inserted, table_of, with_table, without_table}

-- a key, and a datalink to /a under a link number, or NULL
abbrev columns : List Column
columns = record { name = codes "id"; kind = kinds.Int; rule = rules.Key } ∷ record { name = codes "f"; kind = kinds.Linked (record { read = read.Fs; write = write.Fs; recovery = false; unlink = unlink.Nothing }); rule = rules.Plain } ∷ []

abbrev row_with : Value → Value → Row
row_with key file = record { values = key ∷ file ∷ [] }

abbrev plain : ℕ → Row
plain key = row_with (values.Int (pos key)) values.Null

abbrev linked : ℕ → LinkNo → Row
linked key link = row_with (values.Int (pos key)) (values.Link (record { location = []; path = codes "/a"; comment = []; link = Some link }))

abbrev link : ℕ → ℕ → LinkNo
link tx k = record { tx = tx; k = k }

abbrev table : ℕ → ℕ → List (ℕ × Row) → Rows
table version next rows = record { version = version; columns = columns; next = next; rows = rows }

-- ---- rows by number

abbrev three_rows : List (ℕ × Row)
three_rows = (1, plain 1) ∷ (2, plain 2) ∷ (3, plain 3) ∷ []

-- rows are numbered from 1, one after another
put_one_by_one : with_inserted (with_inserted (with_inserted (new_table columns) (plain 1)) (plain 2)) (plain 3) ≡ table 0 4 three_rows
put_one_by_one = refl

found_by_number : map (row_of three_rows) (0 ∷ 1 ∷ 3 ∷ 4 ∷ []) ≡ None ∷ Some (plain 1) ∷ Some (plain 3) ∷ None ∷ []
found_by_number = refl

-- a row takes the place of that of a number; where there is none, nothing changes
taken_place : with_row three_rows 2 (plain 7) ≡ (1, plain 1) ∷ (2, plain 7) ∷ (3, plain 3) ∷ []
taken_place = refl

no_place_taken : with_row three_rows 4 (plain 7) ≡ three_rows
no_place_taken = refl

-- the number of a row that went is not drawn again
behind_the_last : with_inserted (table 0 4 (without_row three_rows 3)) (plain 9) ≡ table 0 5 ((1, plain 1) ∷ (2, plain 2) ∷ (4, plain 9) ∷ [])
behind_the_last = refl

behind_the_second : with_inserted (table 0 4 (without_row three_rows 2)) (plain 9) ≡ table 0 5 ((1, plain 1) ∷ (3, plain 3) ∷ (4, plain 9) ∷ [])
behind_the_second = refl

behind_none : without_row three_rows 5 ≡ three_rows
behind_none = refl

-- the next number is the table's own, whatever rows it has
behind_a_gap : with_inserted (table 3 9 ((2, plain 1) ∷ (5, plain 2) ∷ [])) (plain 3) ≡ table 3 10 ((2, plain 1) ∷ (5, plain 2) ∷ (9, plain 3) ∷ [])
behind_a_gap = refl

-- ---- rows by key: the first of those that have it

abbrev text_key : List ℕ → Row
text_key key = row_with (values.Text key) values.Null

abbrev four_keys : List (ℕ × Row)
four_keys = (1, plain 5) ∷ (2, plain 3) ∷ (3, plain 5) ∷ (4, text_key (codes "k")) ∷ []

abbrev first_with : Value → List (ℕ × Row) → Option ℕ
first_with key rows = first_number (has_key columns key) rows

abbrev five : Value
five = values.Int (pos 5)

first_of_a_key : map (λ key. first_with key four_keys) (five ∷ values.Int (pos 3) ∷ values.Int (pos 4) ∷ values.Text (codes "k") ∷ values.Text (codes "ke") ∷ []) ≡ Some 1 ∷ Some 2 ∷ None ∷ Some 4 ∷ None ∷ []
first_of_a_key = refl

-- the first row has another key, or went
other_key : map (λ key. first_with key (with_row four_keys 1 (plain 9))) (five ∷ values.Int (pos 9) ∷ []) ≡ Some 3 ∷ Some 1 ∷ []
other_key = refl

without_the_first : first_with five (without_row four_keys 1) ≡ Some 3
without_the_first = refl

without_both : first_with five (without_row (with_row four_keys 1 (plain 9)) 3) ≡ None
without_both = refl

without_the_text : first_with (values.Text (codes "k")) (without_row four_keys 4) ≡ None
without_the_text = refl

-- ---- tables by name

abbrev t : List ℕ
t = codes "t"

abbrev u : List ℕ
u = codes "u"

abbrev both : List (ℕ × Row) → List (ℕ × Row) → Tables
both of_t of_u = (t, table 0 9 of_t) ∷ (u, table 0 9 of_u) ∷ []

abbrev two : Tables
two = both ((1, plain 1) ∷ []) ((1, plain 1) ∷ (2, plain 2) ∷ [])

found_by_name : map (table_of two) (t ∷ u ∷ codes "v" ∷ []) ≡ Some (table 0 9 ((1, plain 1) ∷ [])) ∷ Some (table 0 9 ((1, plain 1) ∷ (2, plain 2) ∷ [])) ∷ None ∷ []
found_by_name = refl

put_in_place : with_table two u (table 0 4 three_rows) ≡ (t, table 0 9 ((1, plain 1) ∷ [])) ∷ (u, table 0 4 three_rows) ∷ []
put_in_place = refl

discarded : without_table two t ≡ (u, table 0 9 ((1, plain 1) ∷ (2, plain 2) ∷ [])) ∷ []
discarded = refl

discarded_in_vain : without_table (without_table two t) t ≡ without_table two t
discarded_in_vain = refl

-- ---- rows by link

abbrev linked_rows : List (ℕ × Row)
linked_rows = (1, linked 1 (link 7 1)) ∷ (2, plain 2) ∷ (3, linked 3 (link 7 2)) ∷ (4, linked 4 (link 8 1)) ∷ []

found_by_link : map (λ l. first_number (has_link columns l) linked_rows) (link 7 2 ∷ link 8 1 ∷ link 8 2 ∷ []) ≡ Some 3 ∷ Some 4 ∷ None ∷ []
found_by_link = refl

-- ---- what a copy gives and takes: links differ by either number, and the order is that of tables, rows and columns

abbrev numbers : List LinkRow → List LinkNo
numbers rows = map (λ (l : LinkRow). l.link) rows

abbrev base_rows : List (ℕ × Row)
base_rows = (1, linked 1 (link 7 1)) ∷ (2, linked 2 (link 7 2)) ∷ (3, plain 3) ∷ (4, linked 4 (link 8 1)) ∷ []

abbrev copy_rows : List (ℕ × Row)
copy_rows = (1, linked 1 (link 9 1)) ∷ (2, linked 2 (link 8 1)) ∷ (3, linked 3 (link 8 2)) ∷ (4, linked 4 (link 7 1)) ∷ []

abbrev base : Tables
base = both base_rows ((1, linked 1 (link 6 1)) ∷ [])

-- a copy in which u has one link more
abbrev copy : List (ℕ × Row) → Tables
copy of_t = both of_t ((1, linked 1 (link 6 1)) ∷ (2, linked 2 (link 6 2)) ∷ [])

all_links : numbers (links base) ≡ link 7 1 ∷ link 7 2 ∷ link 8 1 ∷ link 6 1 ∷ []
all_links = refl

given : numbers (gives base (copy copy_rows)) ≡ link 7 2 ∷ []
given = refl

taken : numbers (takes base (copy copy_rows)) ≡ link 9 1 ∷ link 8 2 ∷ link 6 2 ∷ []
taken = refl

all_given : numbers (gives base (copy [])) ≡ link 7 1 ∷ link 7 2 ∷ link 8 1 ∷ []
all_given = refl

one_taken : numbers (takes base (copy [])) ≡ link 6 2 ∷ []
one_taken = refl

none_given : numbers (gives base (copy base_rows)) ≡ []
none_given = refl

one_taken_beside : numbers (takes base (copy base_rows)) ≡ link 6 2 ∷ []
one_taken_beside = refl

-- ---- lists by place, from 0: an item put in, put in the place of one, and taken out; places behind the end

abbrev digits : List ℕ
digits = 1 ∷ 2 ∷ 3 ∷ []

put_in : map (λ place. insert digits place 7) (0 ∷ 1 ∷ 2 ∷ 3 ∷ 9 ∷ []) ≡ (7 ∷ 1 ∷ 2 ∷ 3 ∷ []) ∷ (1 ∷ 7 ∷ 2 ∷ 3 ∷ []) ∷ (1 ∷ 2 ∷ 7 ∷ 3 ∷ []) ∷ (1 ∷ 2 ∷ 3 ∷ 7 ∷ []) ∷ (1 ∷ 2 ∷ 3 ∷ 7 ∷ []) ∷ []
put_in = refl

replaced : map (λ place. slice_set digits place 7) (0 ∷ 1 ∷ 2 ∷ 3 ∷ 9 ∷ []) ≡ (7 ∷ 2 ∷ 3 ∷ []) ∷ (1 ∷ 7 ∷ 3 ∷ []) ∷ (1 ∷ 2 ∷ 7 ∷ []) ∷ digits ∷ digits ∷ []
replaced = refl

taken_out : map (λ place. remove digits place) (0 ∷ 1 ∷ 2 ∷ 3 ∷ 9 ∷ []) ≡ (2 ∷ 3 ∷ []) ∷ (1 ∷ 3 ∷ []) ∷ (1 ∷ 2 ∷ []) ∷ digits ∷ digits ∷ []
taken_out = refl
