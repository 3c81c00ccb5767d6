-- Lists and states: which lists follow a state, and what the records of a step lead to.
use Rattle.std.specs.Prelude.{◌≡◌, ◌≢◌, ◌⊎◌, ℕ, ◌/◌, ◌^◌, ◌<◌, true, false, not, List, [], ◌∷◌, filter, Some, None, is_some}
use Rattle.std.specs.FinMap as maps
use Rattle.std.specs.List.{list_all, list_any}
use Rattle.dl_base.specs.declared.step.Target.{Target}
use Rattle.dl_base.specs.declared.value.LinkRow.{LinkRow}
use Rattle.dl_codec.specs.declared.links.BranchPhase.TheVariants.{Committed}
use Rattle.meaning_areas.specs.Branches.{Branch, is_phase, is_free, given_on}
use Rattle.meaning_areas.specs.Commits.{with_table_changes}
use Rattle.meaning_areas.specs.Core.{decided_in}
use Rattle.meaning_areas.specs.Finishing.{AreNumbered}
use Rattle.meaning_areas.specs.Joint.{Joint}
use Rattle.meaning_areas.specs.Lists.{Folds, Written, folds_on}
use Rattle.meaning_areas.specs.Merges.{Merges}
use Rattle.meaning_areas.specs.Same.{same_link}
use Rattle.meaning_areas.specs.Stands.{AreDrawn, txs_of}
use Rattle.meaning_merge.specs.Merging.{commit_changes}
use Rattle.meaning_merge.specs.Restoring.{in_the_way, restore_changes, without_lost}
use Rattle.meaning_merge.specs.Touching.{In}
use Rattle.meaning_settling.specs.Apart.{IsReady, has_key}
use Rattle.meaning_settling.specs.Settled.{settled}
use Rattle.meaning_settling.specs.Settling.{on}
use Rattle.meaning_tables.specs.Fits.{fits}
use Rattle.meaning_tables.specs.Links.{gives, links, takes}
use Rattle.meaning_tables.specs.OptionRows.{is_option_row}
use Rattle.meaning_tables.specs.Tables.{Tables, IsNumbered}
use Rattle.meaning_system.specs.Claims.{conflict}
use Rattle.meaning_system.specs.Commands.{forbidding}
use Rattle.meaning_system.specs.CoreOf.{core_of}
use Rattle.meaning_system.specs.Machine.{commit_by, first_session, lost_to, merged_by, next_commit, restore_moved, restore_to, target_tables, unfinished}
use Rattle.meaning_system.specs.State.{Txn, State, tables_of, moved_of, is_active, is_doomed, is_prepared, kept_in}

-- THE LISTS FOLLOW a state: they go with its core, and no Finish was cut short
pub record Follows (f : Folds) (s : State) : Type 0 where
  pub joint : Joint f (core_of s)
  pub uncut : (tx : ℕ) (b : Branch) → maps.get f.links.table tx ≡ Some b → is_phase b.phase Committed ≡ false

-- SOME RECORDS LEAD from lists to those of a state: all are taken, and the lists behind them follow it
pub record Leads (f : Folds) (xs : List Written) (s : State) : Type 0 where
  pub later : Folds
  pub taken : folds_on (Some f) xs ≡ Some later
  pub follows : Follows later s

-- each table's row numbers rise
abbrev pub AreRising : Tables → Type 0
AreRising [] = Unit {0}
AreRising (t ∷ ts) = IsNumbered t.1 × AreRising ts

-- what an accepted claim leaves until its transaction ends: what it gives is committed, the paths of what it takes are free or
-- given, and no number of its links is of a later opening
pub record IsClaimed (s : State) (t : Txn) : Type 0 where
  pub given : (g : LinkRow) → list_any (same_link g) (moved_of t).gives ≡ true → on (links (tables_of s)) g.path ≡ Some g
  pub free : list_all (λ l. is_free (on (links (tables_of s)) l.path) (given_on (moved_of t).gives l.path)) (moved_of t).takes ≡ true
  pub drawn : AreDrawn s.rows_opening (moved_of t).gives × AreDrawn s.rows_opening (moved_of t).takes

-- the claims of active transactions stand, but of those that are doomed
abbrev pub AreClaimed : State → Type 0
AreClaimed s = (tx : ℕ) (t : Txn) → maps.get s.txs tx ≡ Some t → is_active t.phase ≡ true → is_doomed s t ≡ false → IsClaimed s t

-- what a transaction would move has no link number of another that is not doomed
abbrev pub HasOwnNumbers : State → ℕ → Txn → Type 0
HasOwnNumbers s tx t = (u : ℕ) (v : Txn) → u ≢ tx → maps.get s.txs u ≡ Some v → is_doomed s v ≡ false → (n : List ℕ) → (has_key (moved_of t) n ≡ false) ⊎ (has_key (moved_of v) n ≡ false)

-- WHAT A COMMIT OWES TO THE HISTORY BEHIND IT: its record leads to the merged tables, which fit; it takes away and adds what its
-- transaction gives and takes, and of that there is a copy or a file
pub record IsMerged (s : State) (tx : ℕ) (t : Txn) : Type 0 where
  pub changes : with_table_changes (next_commit s) (tables_of s) (commit_changes t.base t.copy) ≡ Some (merged_by s t)
  pub fit : fits (merged_by s t) ≡ true
  pub given : (commit_by s tx t).gives ≡ (moved_of t).gives
  pub taken : (commit_by s tx t).takes ≡ (moved_of t).takes
  pub merges : Merges s.commits (settled (decided_in (core_of s)) (txs_of s.commits) (kept_in s)) (moved_of t) (merged_by s t)
  pub ready : IsReady (moved_of t) (kept_in s)
  pub drawn : AreDrawn s.rows_opening (links (merged_by s t))

-- each transaction that may be decided is one
abbrev pub AreMerged : State → Type 0
AreMerged s = (tx : ℕ) (t : Txn) → maps.get s.txs tx ≡ Some t → is_prepared t.phase ≡ true → conflict t.base (tables_of s) t.named ≡ None → IsMerged s tx t

-- WHAT A RESTORE OWES to it: likewise, and that its claim stands
pub record IsRestored (s : State) (target later : Tables) : Type 0 where
  pub changes : with_table_changes (next_commit s) (tables_of s) (restore_changes (tables_of s) target) ≡ Some later
  pub fit : fits later ≡ true
  pub given : (g : LinkRow) → list_any (same_link g) (restore_moved s later).gives ≡ true → on (links (tables_of s)) g.path ≡ Some g
  pub free : list_all (λ l. is_free (on (links (tables_of s)) l.path) (given_on (restore_moved s later).gives l.path)) (restore_moved s later).takes ≡ true
  pub numbers : AreNumbered (restore_moved s later).gives
  pub moved_drawn : AreDrawn s.rows_opening (restore_moved s later).gives × AreDrawn s.rows_opening (restore_moved s later).takes
  pub merges : Merges s.commits (kept_in s) (restore_moved s later) later
  pub ready : IsReady (restore_moved s later) (kept_in s)
  pub drawn : AreDrawn s.rows_opening (links later)

-- where it is let through
abbrev pub AreRestored : State → Target → Type 0
AreRestored s t = (target : Tables) → first_session s ≡ None → unfinished s ≡ None → target_tables s t ≡ Some target
    → in_the_way s.files s.copies (gives (tables_of s) target) (filter (λ l. not (lost_to s target l)) (takes (tables_of s) target)) ≡ None → IsRestored s (without_lost (lost_to s target) target) (restore_to s target)

-- each active transaction is one of a session
abbrev pub AreInSessions : State → Type 0
AreInSessions s = (tx : ℕ) (t : Txn) → maps.get s.txs tx ≡ Some t → is_active t.phase ≡ true → (session : ℕ) × (maps.get s.sessions session ≡ Some tx)

-- the links that forbid commands have options of the seven rows
abbrev pub HaveRows : State → Type 0
HaveRows s = (p : List ℕ) (l : LinkRow) → In l (forbidding s p) → is_option_row l.options ≡ true

-- the links that a transaction gives have different numbers
abbrev pub HaveNumbers : State → Type 0
HaveNumbers s = (tx : ℕ) (t : Txn) → maps.get s.txs tx ≡ Some t → AreNumbered (moved_of t).gives

-- the transactions of sessions were begun in the present opening of Rows, and no more than its numbers were drawn
pub record HasSessions (s : State) : Type 0 where
  pub present : (session tx : ℕ) → maps.get s.sessions session ≡ Some tx → tx / 2 ^ 32 ≡ s.rows_opening
  pub few : s.drawn < 2 ^ 32

-- the committed tables fit, and those at each transaction's begin
pub record HaveFits (s : State) : Type 0 where
  pub committed : fits (tables_of s) ≡ true
  pub bases : (tx : ℕ) (t : Txn) → maps.get s.txs tx ≡ Some t → fits t.base ≡ true

-- what prepared transactions take has files
abbrev pub HaveFiles : State → Type 0
HaveFiles s = (tx : ℕ) (t : Txn) → maps.get s.txs tx ≡ Some t → is_prepared t.phase ≡ true → (l : LinkRow) → In l (moved_of t).takes → is_some (maps.get s.files l.path) ≡ true
