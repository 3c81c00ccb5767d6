-- Commits as they are kept: the record of each; and the branches that have ended.
use Rattle.std.specs.Prelude.{◌≡◌, ℕ, zero, suc, ◌+◌, ◌&&◌, Bool, true, false, not, if◌then◌else◌, List, [], ◌∷◌, Option, Some, None, nat_eq, slice_get}
use Rattle.std.specs.HashMap as hash
use Rattle.std.specs.HashMap.{HashMap}
use Rattle.std.specs.HashSet as set
use Rattle.std.specs.HashSet.{HashSet}
use Rattle.std.specs.List.{list_all}
use Rattle.std.specs.Map.{lookup}
use Rattle.std.specs.Option.{option_map, unwrap_or}
use Rattle.dl_codec.specs.declared.rows.TableChange.{TableChange}
use Rattle.db_changes.specs.Made.{changes_in}
use Rattle.db_changes.specs.Touched.{are_committed}
use Rattle.db_store.specs.declared.log.Entry.{Entry}
use Rattle.meaning_areas.specs.Commits.{Commit, has_number, with_table_changes}
use Rattle.meaning_tables.specs.Links.{gives, takes}
use Rattle.meaning_tables.specs.Tables.{Tables}

-- the commits by transaction number, in order, and for how many more there is room
pub record Log : Type 0 where
  pub entries : List (ℕ × Entry)
  pub spare : ℕ

-- a map has for each transaction with a commit whether that has a branch, and nothing for others
abbrev pub KnowsBranches : {S : Type 0} → HashMap ℕ Bool S → List (ℕ × Entry) → Type 0
KnowsBranches branches es = (tx : ℕ) → hash.get nat_eq branches tx ≡ option_map (λ e. e.branch) (lookup (λ k. nat_eq tx k) es)

-- a commit that leads from some tables to others
abbrev pub commit_between : Tables → ℕ → Bool → Tables → Commit
commit_between before tx branch tables = record {
  tx = tx;
  branch = branch;
  gives = gives before tables;
  takes = takes before tables;
  tables = tables;
}

-- the tables after the changes of the commit of a number; those before, where the changes do not apply, as those of a kept commit do
abbrev pub redone : ℕ → Tables → List TableChange → Tables
redone number before changes = unwrap_or (with_table_changes number before changes) before

-- what they stand for, by the number of the first: each leads from the tables before it to those after the changes of its record
abbrev pub commits_from : ℕ → Tables → List (ℕ × Entry) → List Commit
commits_from number before [] = []
commits_from number before (e ∷ es) =
    let after = redone number before (changes_in e.1.body) in
    commit_between before e.0 e.1.branch after ∷ commits_from (number + 1) after es

-- the changes of the first of some commits
abbrev pub first_changes : List (ℕ × Entry) → List TableChange
first_changes [] = []
first_changes (e ∷ es) = changes_in e.1.body

-- whether there is a commit, and it has a branch
abbrev pub has_branch : Option Commit → Bool
has_branch None = false
has_branch (Some c) = c.branch

-- the commit of a number, from 1
abbrev pub commit_numbered : List Commit → ℕ → Option Commit
commit_numbered cs zero = None
commit_numbered cs (suc n) = slice_get cs n

-- no table after any of the commits was just made
abbrev pub AllCommitted : List Commit → Type 0
AllCommitted cs = list_all (λ c. are_committed c.tables) cs ≡ true

-- the transactions whose branches have ended, in order, and for how many more there is room
pub record Ended : Type 0 where
  pub numbers : List ℕ
  pub spare : ℕ

-- a set has the numbers of a list, and no others
abbrev pub KnowsNumbers : {S : Type 0} → HashSet ℕ S → List ℕ → Type 0
KnowsNumbers known numbers = (tx : ℕ) → set.contains nat_eq known tx ≡ has_number tx numbers

-- a commit with a branch that has not ended, and how many there are
abbrev pub is_open : List ℕ → Commit → Bool
is_open ended c = c.branch && not (has_number c.tx ended)

abbrev pub open_branches : List ℕ → List Commit → ℕ
open_branches ended [] = 0
open_branches ended (c ∷ cs) = (if is_open ended c then 1 else 0) + open_branches ended cs
