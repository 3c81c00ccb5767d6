-- Two outcomes of one statement, and two of a transaction's statements, over different tables.
use Rattle.std.specs.Prelude.{◌≡◌, ℕ, true, false, List}
use Rattle.meaning_merge.specs.History.{is_among}
use Rattle.meaning_system.specs.Sql.{Evaluated}
use Rattle.meaning_tables.specs.Tables.{Tables, table_of}
use Rattle.meaning_serial.specs.Serial.{Replay}

-- two lists of tables have the same table, or none, under each of some names
abbrev pub Agree : List (List ℕ) → Tables → Tables → Type 0
Agree names ts us = (name : List ℕ) → is_among names name ≡ true → table_of us name ≡ table_of ts name

-- under all other names they have the same
abbrev pub AgreeBeside : List (List ℕ) → Tables → Tables → Type 0
AgreeBeside names ts us = (name : List ℕ) → is_among names name ≡ false → table_of us name ≡ table_of ts name

-- what a statement over ts and over us came to: the same answer and next number, and the same tables under these names; all other
-- tables are as they were
pub record AreAlike (names : List (List ℕ)) (ts us : Tables) (e f : Evaluated) : Type 0 where
  pub answer : f.answer ≡ e.answer
  pub next : f.next ≡ e.next
  pub named : Agree names e.tables f.tables
  pub others : AgreeBeside names ts e.tables × AgreeBeside names us f.tables

-- and what some statements over ts and over us came to
pub record ReplaysAlike (names : List (List ℕ)) (ts us : Tables) (r q : Replay) : Type 0 where
  pub answers : q.answers ≡ r.answers
  pub next : q.next ≡ r.next
  pub named : Agree names r.tables q.tables
  pub others : AgreeBeside names ts r.tables × AgreeBeside names us q.tables
