-- The history behind a commit: what holds of the tables after each commit, and of a transaction's base, copy and named tables.
use Rattle.std.specs.Prelude.{◌≡◌, ◌⊎◌, ◌||◌, ℕ, ◌<◌, ◌≤◌, true, false, nat_le, nat_lt, List, [], ◌∷◌, filter, bytes_eq, Bool, Some, is_some}
use Rattle.std.specs.List.{list_any}
use Rattle.dl_base.specs.declared.statement.Stmt.{Stmt}
use Rattle.dl_base.specs.declared.statement.Stmt.TheVariants as statements
use Rattle.meaning_areas.specs.Commits.{Commit, commit_of, columns_stand}
use Rattle.meaning_areas.specs.Stands.{past}
use Rattle.meaning_tables.specs.Fits.{Fits}
use Rattle.meaning_tables.specs.Links.{links}
use Rattle.meaning_tables.specs.Tables.{Rows, Tables, table_of, version}
use Rattle.sql_invariants.specs.Free.{IsFree}
use Rattle.sql_invariants.specs.Ordered.{AreOrdered}
use Rattle.meaning_merge.specs.Touching.{In, EachLink}

abbrev pub EachTable : Tables → (List ℕ × Rows → Type 0) → Type 0
EachTable [] P = Unit {0}
EachTable (t ∷ ts) P = P t × EachTable ts P

-- some of the tables of a list, in its order
pub data Subsequence : Tables → Tables → Type 0 where
  ends : Subsequence [] []
  leaves : {whole part : Tables} (t : List ℕ × Rows) → Subsequence whole part → Subsequence (t ∷ whole) part
  keeps : {whole part : Tables} (t : List ℕ × Rows) → Subsequence whole part → Subsequence (t ∷ whole) (t ∷ part)

-- the tables that no commit behind this one has changed
abbrev pub older : ℕ → Tables → Tables
older n ts = filter (λ t. nat_le t.1.version n) ts

-- a number that some transaction has had: that of a commit, or one below those that are drawn now
abbrev pub is_used : ℕ → List Commit → ℕ → Bool
is_used first cs tx = nat_lt tx first || is_some (commit_of tx cs)

-- A HISTORY: what the tables after each commit owe to those before. Commit 0 has none. Numbers of transactions are drawn from
-- `first` on: what an opening finds may have links of transactions that never committed, but of earlier openings alone.
pub record IsHistory (first : ℕ) (cs : List Commit) : Type 0 where
  -- the version of a table is the number of the commit that last changed it
  pub versions : (n : ℕ) (ts : Tables) → past [] cs n ≡ Some ts → EachTable ts (λ t. (0 < t.1.version) × (t.1.version ≤ n))
  -- what was not changed since an earlier commit is as it was there, in the same order
  pub same : (i j : ℕ) (es ls : Tables) → i ≤ j → past [] cs i ≡ Some es → past [] cs j ≡ Some ls → Subsequence es (older i ls)
  pub ordered : (n : ℕ) (ts : Tables) → past [] cs n ≡ Some ts → AreOrdered ts
  -- CREATE TABLE could have made the columns
  pub columns : (n : ℕ) (ts : Tables) → past [] cs n ≡ Some ts → EachTable ts (λ t. columns_stand t.1.columns ≡ true)
  pub fit : (n : ℕ) (ts : Tables) → past [] cs n ≡ Some ts → Fits ts
  -- the number of each link's transaction is used
  pub drawn : (n : ℕ) (ts : Tables) → past [] cs n ≡ Some ts → EachLink (links ts) (λ l. is_used first cs l.link.tx ≡ true)

-- tables that the copy has made: of version 0, with columns that CREATE TABLE could have made
abbrev pub AreMade : Tables → Type 0
AreMade ts = EachTable ts (λ t. (t.1.version ≡ 0) × (columns_stand t.1.columns ≡ true))

-- A copy has the tables of its base in their order, some dropped, others with other rows; behind them stand those just made.
pub data CopyOf : Tables → Tables → Type 0 where
  makes : {copy : Tables} → AreMade copy → CopyOf [] copy
  drops : {base copy : Tables} (t : List ℕ × Rows) → CopyOf base copy → CopyOf (t ∷ base) copy
  has : {base copy : Tables} (t : List ℕ × Rows) (later : Rows) → later.version ≡ t.1.version → later.columns ≡ t.1.columns → CopyOf base copy → CopyOf (t ∷ base) ((t.0, later) ∷ copy)

abbrev pub is_among : List (List ℕ) → List ℕ → Bool
is_among names name = list_any (bytes_eq name) names

-- A TRANSACTION of a history: its base are the tables after some commit, and its copy is what its statements made of them.
pub record IsTransaction (first : ℕ) (cs : List Commit) (tx : ℕ) (base copy : Tables) (names : List (List ℕ)) (next : ℕ) : Type 0 where
  pub begun : (n : ℕ) × (past [] cs n ≡ Some base)
  -- its number is not used: it has not committed
  pub unused : is_used first cs tx ≡ false
  pub copy_of : CopyOf base copy
  -- each table that base and copy tell apart is named
  pub named : (name : List ℕ) → is_among names name ≡ false → table_of copy name ≡ table_of base name
  pub ordered : AreOrdered copy
  pub fit : Fits copy
  pub free : IsFree copy tx next
  -- each link of the copy is the base's, or has a number of this transaction
  pub drawn : EachLink (links copy) (λ l. In l (links base) ⊎ (l.link.tx ≡ tx))

-- the name of the table that a statement changes
abbrev pub changed_by : Stmt → List (List ℕ)
changed_by (statements.CreateTable name columns) = name ∷ []
changed_by (statements.DropTable name) = name ∷ []
changed_by (statements.Insert name names tuples) = name ∷ []
changed_by (statements.Update name sets filter) = name ∷ []
changed_by (statements.Delete name filter) = name ∷ []
changed_by _ = []

-- no conflict: the named tables have in the committed tables the version that they have in the base
abbrev pub AreCurrent : Tables → Tables → List (List ℕ) → Type 0
AreCurrent base committed names = (name : List ℕ) → is_among names name ≡ true → version (table_of base name) ≡ version (table_of committed name)
