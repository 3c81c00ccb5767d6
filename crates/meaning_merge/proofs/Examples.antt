-- A history of two commits, and a transaction that began behind the first one: another changed the second table meanwhile.
use Rattle.std.proofs.Common.{◌≡◌, inl, inr, ℕ, ◌||◌, List, [], ◌∷◌, Bool, true, false, cond, bytes_eq, Option, Some, None, refl, sym, subst, arith}
use Rattle.dl_base.specs.declared.column.Column.{Column}
use Rattle.dl_base.specs.declared.column.ColumnRule.TheVariants as rules
use Rattle.dl_base.specs.declared.column.Kind.TheVariants as kinds
use Rattle.dl_base.specs.declared.value.Row.{Row}
use Rattle.dl_base.specs.declared.value.Value.{Value}
use Rattle.dl_base.specs.declared.value.Value.TheVariants as values
use Rattle.meaning_areas.specs.Commits.{Commit, commit_to, tables_after, with_table_changes}
use Rattle.meaning_statements.specs.Creating.{db2_options}
use Rattle.meaning_tables.specs.Links.{gives, takes}
use Rattle.meaning_tables.specs.Tables.{Rows, Tables, table_of, version}
use Rattle.meaning_merge.specs.History.{makes, has, IsHistory, IsTransaction, AreCurrent}
use Rattle.meaning_merge.specs.Merging.{merge, commit_changes}
use Rattle.meaning_merge.specs.Touching.{Touches}
use Rattle.meaning_merge.proofs.Committed.{goes-on, merge-follows, no-commits}
use Rattle.meaning_merge.proofs.Histories.{named-ordered}
use Rattle.meaning_merge.proofs.Keeping.{name-same}
use Rattle.meaning_merge.proofs.Touched.{merge-touches}

-- table a has one column of links, b one of numbers
abbrev a : List ℕ
a = 97 ∷ []

abbrev b : List ℕ
b = 98 ∷ []

abbrev linked : List Column
linked = record { name = 108 ∷ []; kind = kinds.Linked db2_options; rule = rules.Plain } ∷ []

abbrev plain : List Column
plain = record { name = 110 ∷ []; kind = kinds.Int; rule = rules.Plain } ∷ []

abbrev row : ℕ → Value → ℕ × Row
row n v = (n, record { values = v ∷ [] })

abbrev link : ℕ → ℕ → Value
link letter tx = values.Link (record { location = 104 ∷ []; path = 47 ∷ letter ∷ []; comment = []; link = Some (record { tx = tx; k = 1 }) })

abbrev table : ℕ → List Column → ℕ → List (ℕ × Row) → Rows
table v columns next rows = record { version = v; columns = columns; next = next; rows = rows }

-- transaction 1 makes both, with a link in a
abbrev made : Tables
made = (a, table 0 linked 2 (row 1 (link 120 1) ∷ [])) ∷ (b, table 0 plain 1 []) ∷ []

abbrev first : Tables
first = (a, table 1 linked 2 (row 1 (link 120 1) ∷ [])) ∷ (b, table 1 plain 1 []) ∷ []

-- transaction 6 puts a row into b; transaction 5 puts another link in the place of the one in a
abbrev second : Tables
second = (a, table 1 linked 2 (row 1 (link 120 1) ∷ [])) ∷ (b, table 1 plain 2 (row 1 values.Null ∷ [])) ∷ []

abbrev mine : Tables
mine = (a, table 1 linked 3 (row 2 (link 121 5) ∷ [])) ∷ (b, table 1 plain 1 []) ∷ []

abbrev commit_1 : Commit
commit_1 = commit_to [] 1 true (merge [] [] made 1)

abbrev past_1 : List Commit
past_1 = commit_1 ∷ []

abbrev past_2 : List Commit
past_2 = commit_1 ∷ commit_to past_1 6 false (merge first first second 2) ∷ []

the_first : tables_after [] past_1 ≡ first
the_first = refl

the_second : tables_after [] past_2 ≡ (a, table 1 linked 2 (row 1 (link 120 1) ∷ [])) ∷ (b, table 2 plain 2 (row 1 values.Null ∷ [])) ∷ []
the_second = refl

-- names

one_of : (x y : Bool) (s t o : Option Rows) → (x || (y || false)) ≡ false → cond x s (cond y t None) ≡ None
one_of true y s t o e = absurd cc
one_of false true s t o e = absurd cc
one_of false false s t o e = refl

other_a : (x y : Bool) (s t u : Option Rows) → (x || false) ≡ false → cond x s (cond y u None) ≡ cond x t (cond y u None)
other_a true y s t u e = absurd cc
other_a false y s t u e = refl

other_b : (x y : Bool) (s t u : Option Rows) → (y || false) ≡ false → cond x u (cond y s None) ≡ cond x u (cond y t None)
other_b x true s t u e = absurd cc
other_b true false s t u e = refl
other_b false false s t u e = refl

only : (x : Bool) → (x || false) ≡ true → x ≡ true
only true e = refl
only false e = absurd cc

-- transaction 1, and the history behind its commit

txn_1 : IsTransaction 0 [] 1 [] made (a ∷ b ∷ []) 2
txn_1 = record {
  begun = (0, refl);
  unused = refl;
  copy_of = makes ((refl, refl), ((refl, refl), tt));
  named = λ name lacks. one_of (bytes_eq name a) (bytes_eq name b) (Some (table 0 linked 2 (row 1 (link 120 1) ∷ []))) (Some (table 0 plain 1 [])) None lacks;
  ordered = named-ordered made (refl, (refl, tt)) ((omega arith, omega arith, tt), (tt, tt));
  fit = refl;
  free = refl;
  drawn = (inr refl, tt);
}

history_1 : IsHistory 0 past_1
history_1 = goes-on 0 [] commit_1 (no-commits 0) (merge-follows 0 [] 1 [] made (a ∷ b ∷ []) 2 (no-commits 0) txn_1 (λ name among. refl) commit_1 refl refl)

-- transaction 6 changes b

txn_6 : IsTransaction 0 past_1 6 first second (b ∷ []) 1
txn_6 = record {
  begun = (1, refl);
  unused = refl;
  copy_of = has (a, table 1 linked 2 (row 1 (link 120 1) ∷ [])) (table 1 linked 2 (row 1 (link 120 1) ∷ [])) refl refl (has (b, table 1 plain 1 []) (table 1 plain 2 (row 1 values.Null ∷ [])) refl refl (makes tt));
  named = λ name lacks. other_b (bytes_eq name a) (bytes_eq name b) (Some (table 1 plain 2 (row 1 values.Null ∷ []))) (Some (table 1 plain 1 [])) (Some (table 1 linked 2 (row 1 (link 120 1) ∷ []))) lacks;
  ordered = named-ordered second (refl, (refl, tt)) ((omega arith, omega arith, tt), ((omega arith, omega arith, tt), tt));
  fit = refl;
  free = refl;
  drawn = (inl (inl refl), tt);
}

history_2 : IsHistory 0 past_2
history_2 = goes-on 0 past_1 (commit_to past_1 6 false (merge first first second 2)) history_1 (merge-follows 0 past_1 6 first second (b ∷ []) 1 history_1 txn_6 (λ name among. refl) (commit_to past_1 6 false (merge first first second 2)) refl refl)

-- transaction 5 began behind commit 1, changes a, and meets no conflict behind commit 2

txn_5 : IsTransaction 0 past_2 5 first mine (a ∷ []) 2
txn_5 = record {
  begun = (1, refl);
  unused = refl;
  copy_of = has (a, table 1 linked 2 (row 1 (link 120 1) ∷ [])) (table 1 linked 3 (row 2 (link 121 5) ∷ [])) refl refl (has (b, table 1 plain 1 []) (table 1 plain 1 []) refl refl (makes tt));
  named = λ name lacks. other_a (bytes_eq name a) (bytes_eq name b) (Some (table 1 linked 3 (row 2 (link 121 5) ∷ []))) (Some (table 1 linked 2 (row 1 (link 120 1) ∷ []))) (Some (table 1 plain 1 [])) lacks;
  ordered = named-ordered mine (refl, (refl, tt)) ((omega arith, omega arith, tt), (tt, tt));
  fit = refl;
  free = refl;
  drawn = (inr refl, tt);
}

current_5 : AreCurrent first (tables_after [] past_2) (a ∷ [])
current_5 name among = subst (λ n. version (table_of first n) ≡ version (table_of (tables_after [] past_2) n)) (sym (name-same name a (only (bytes_eq name a) among))) refl

-- THE PREMISES ARE MET, and what is merged

touches_5 : Touches first mine (tables_after [] past_2) (merge (tables_after [] past_2) first mine 3)
touches_5 = merge-touches 0 past_2 5 first mine (a ∷ []) 2 history_2 txn_5 current_5

abbrev third : Tables
third = (a, table 3 linked 3 (row 2 (link 121 5) ∷ [])) ∷ (b, table 2 plain 2 (row 1 values.Null ∷ [])) ∷ []

the_third : merge (tables_after [] past_2) first mine 3 ≡ third
the_third = refl

the_changes : with_table_changes 3 (tables_after [] past_2) (commit_changes first mine) ≡ Some third
the_changes = refl

given_5 : gives (tables_after [] past_2) third ≡ gives first mine
given_5 = refl

taken_5 : takes (tables_after [] past_2) third ≡ takes first mine
taken_5 = refl
