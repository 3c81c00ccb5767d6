-- The link numbers that the statements of one transaction draw, keep and give back.
use Rattle.std.proofs.Common.{◌≡◌, ℕ, List, [], ◌∷◌, ◌++◌, map, codes, Option, Some, None, Ok, refl, pos}
use Rattle.dl_base.specs.declared.column.Column.{Column}
use Rattle.dl_base.specs.declared.column.ColumnRule.TheVariants as rules
use Rattle.dl_base.specs.declared.column.Kind.TheVariants as kinds
use Rattle.dl_base.specs.declared.statement.Expr.{Expr}
use Rattle.dl_base.specs.declared.value.LinkNo.{LinkNo}
use Rattle.dl_base.specs.declared.value.LinkRow.{LinkRow}
use Rattle.dl_base.specs.declared.value.Row.{Row}
use Rattle.dl_base.specs.declared.value.Value.{Value}
use Rattle.dl_base.specs.declared.value.Value.TheVariants as values
use Rattle.meaning_sql.specs.declared.Context.{Context}
use Rattle.meaning_sql.specs.Values.{meaning, cell}
use Rattle.meaning_statements.specs.Assigning.{stored, stored_row}
use Rattle.meaning_statements.specs.Changing.{inserted_row, inserted_rows}
use Rattle.meaning_statements.specs.Creating.{db2_options}
use Rattle.meaning_statements.specs.Sources.{no_row}
use Rattle.meaning_tables.specs.Links.{links, gives, takes}
use Rattle.meaning_tables.specs.Tables.{Tables, without_table}

-- x INTEGER PRIMARY KEY, d DATALINK under DB2OPTIONS
abbrev columns : List Column
columns = record { name = codes "x"; kind = kinds.Int; rule = rules.Key } ∷ record { name = codes "d"; kind = kinds.Linked db2_options; rule = rules.Plain } ∷ []

abbrev at_moment : Context
at_moment = record { server = codes "fs1"; key = []; now = 0; life = 60; tx = 9 }

-- a datalink to the file of one letter, and the number of a link of transaction 9
abbrev to : List ℕ → Option LinkNo → Value
to letter number = values.Link (record { location = codes "http://fs1/" ++ letter; path = 47 ∷ letter; comment = []; link = number })

abbrev nine : ℕ → Option LinkNo
nine k = Some (record { tx = 9; k = k })

abbrev int : ℕ → Value
int n = values.Int (pos n)

abbrev row : Value → Value → Row
row x d = record { values = x ∷ d ∷ [] }

-- ---- what is drawn and kept

-- INSERT of two tuples with a datalink each: the numbers go on from tuple to tuple
two_drawn : (one two a b : Expr)
    → meaning [] at_moment [] one no_row ≡ Ok (int 1)
    → meaning [] at_moment [] a no_row ≡ Ok (to (codes "a") None)
    → meaning [] at_moment [] two no_row ≡ Ok (int 2)
    → meaning [] at_moment [] b no_row ≡ Ok (to (codes "b") None)
    → inserted_rows at_moment [] no_row columns (0 ∷ 1 ∷ []) 1 1 ((one ∷ a ∷ []) ∷ (two ∷ b ∷ []) ∷ [])
    ≡ Ok ((1, row (int 1) (to (codes "a") (nine 1))) ∷ (2, row (int 2) (to (codes "b") (nine 2))) ∷ [], 3)
unfolding inserted_row stored cell
two_drawn one two a b is_one is_a is_two is_b = rw (is_one, is_a, is_two, is_b) refl

-- NULL draws none
null_and_a_link : (one two absent c : Expr)
    → meaning [] at_moment [] one no_row ≡ Ok (int 3)
    → meaning [] at_moment [] absent no_row ≡ Ok values.Null
    → meaning [] at_moment [] two no_row ≡ Ok (int 4)
    → meaning [] at_moment [] c no_row ≡ Ok (to (codes "c") None)
    → inserted_rows at_moment [] no_row columns (0 ∷ 1 ∷ []) 3 3 ((one ∷ absent ∷ []) ∷ (two ∷ c ∷ []) ∷ [])
    ≡ Ok ((3, row (int 3) values.Null) ∷ (4, row (int 4) (to (codes "c") (nine 3))) ∷ [], 4)
unfolding inserted_row stored cell
null_and_a_link one two absent c is_one is_absent is_two is_c = rw (is_one, is_absent, is_two, is_c) refl

-- a row whose datalink is not set keeps its number
other_key : stored_row 9 4 0 columns (row (int 1) (to (codes "a") (nine 1))) (row (int 2) (to (codes "a") (nine 1))) ≡ Ok (int 2 ∷ to (codes "a") (nine 1) ∷ [], 4)
unfolding stored cell
other_key = refl

-- so does one with another comment on the same file
abbrev noted : List ℕ → Option LinkNo → Value
noted letter number = values.Link (record { location = codes "http://fs1/" ++ letter; path = 47 ∷ letter; comment = codes "note"; link = number })

other_comment : stored_row 9 4 0 columns (row (int 2) (to (codes "a") (nine 1))) (row (int 2) (noted (codes "a") None)) ≡ Ok (int 2 ∷ noted (codes "a") (nine 1) ∷ [], 4)
unfolding stored cell
other_comment = refl

-- another file draws the next number
other_file : stored_row 9 4 0 columns (row (int 2) (noted (codes "a") (nine 1))) (row (int 2) (noted (codes "e") None)) ≡ Ok (int 2 ∷ noted (codes "e") (nine 4) ∷ [], 5)
unfolding stored cell
other_file = refl

-- ---- what each statement gives and takes

abbrev t : ℕ → List (ℕ × Row) → Tables
t next rows = (codes "t", record { version = 0; columns = columns; next = next; rows = rows }) ∷ []

-- the count of each link and its path
abbrev told : List LinkRow → List (ℕ × List ℕ)
told rows = map (λ (l : LinkRow). (l.link.k, l.path)) rows

abbrev of : ℕ → List ℕ → ℕ × List ℕ
of k letter = (k, 47 ∷ letter)

-- INSERT of 1 with a link to /a and of 2 with one to /b
abbrev inserted : Tables
inserted = t 3 ((1, row (int 1) (to (codes "a") (nine 1))) ∷ (2, row (int 2) (to (codes "b") (nine 2))) ∷ [])

insert_takes : told (takes (t 1 []) inserted) ≡ of 1 (codes "a") ∷ of 2 (codes "b") ∷ []
insert_takes = refl

insert_gives : told (gives (t 1 []) inserted) ≡ []
insert_gives = refl

-- INSERT of 3 with NULL and of 4 with a link to /c
abbrev more : Tables
more = t 5 ((1, row (int 1) (to (codes "a") (nine 1))) ∷ (2, row (int 2) (to (codes "b") (nine 2))) ∷ (3, row (int 3) values.Null) ∷ (4, row (int 4) (to (codes "c") (nine 3))) ∷ [])

more_links : told (links more) ≡ of 1 (codes "a") ∷ of 2 (codes "b") ∷ of 3 (codes "c") ∷ []
more_links = refl

more_takes : told (takes inserted more) ≡ of 3 (codes "c") ∷ []
more_takes = refl

-- UPDATE of all keys, and of a comment: nothing is given or taken
abbrev moved : Tables
moved = t 5 ((1, row (int 2) (noted (codes "a") (nine 1))) ∷ (2, row (int 3) (to (codes "b") (nine 2))) ∷ (3, row (int 4) values.Null) ∷ (4, row (int 5) (to (codes "c") (nine 3))) ∷ [])

moved_gives : told (gives more moved) ≡ []
moved_gives = refl

moved_takes : told (takes more moved) ≡ []
moved_takes = refl

-- UPDATE of the first row to a link to /e
abbrev other : Tables
other = t 5 ((1, row (int 2) (noted (codes "e") (nine 4))) ∷ (2, row (int 3) (to (codes "b") (nine 2))) ∷ (3, row (int 4) values.Null) ∷ (4, row (int 5) (to (codes "c") (nine 3))) ∷ [])

other_links : told (links other) ≡ of 4 (codes "e") ∷ of 2 (codes "b") ∷ of 3 (codes "c") ∷ []
other_links = refl

other_gives : told (gives moved other) ≡ of 1 (codes "a") ∷ []
other_gives = refl

other_takes : told (takes moved other) ≡ of 4 (codes "e") ∷ []
other_takes = refl

-- DELETE of the second row
abbrev fewer : Tables
fewer = t 5 ((1, row (int 2) (noted (codes "e") (nine 4))) ∷ (3, row (int 4) values.Null) ∷ (4, row (int 5) (to (codes "c") (nine 3))) ∷ [])

fewer_gives : told (gives other fewer) ≡ of 2 (codes "b") ∷ []
fewer_gives = refl

fewer_takes : told (takes other fewer) ≡ []
fewer_takes = refl

-- DROP TABLE gives all
dropped_gives : told (gives fewer (without_table fewer (codes "t"))) ≡ of 4 (codes "e") ∷ of 3 (codes "c") ∷ []
dropped_gives = refl

dropped_links : told (links (without_table fewer (codes "t"))) ≡ []
dropped_links = refl
