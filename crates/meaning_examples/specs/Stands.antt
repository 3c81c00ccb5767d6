-- What the lists of the five areas stand for together.
use Rattle.std.specs.Prelude.{◌≡◌, ◌≢◌, ◌⊎◌, ℕ, zero, suc, ◌/◌, ◌^◌, ◌<◌, ◌≤◌, Bool, true, false, IsTrue, if◌then◌else◌, List, [], ◌∷◌, map, Option, Some, None, is_some}
use Rattle.meaning_examples.specs.Maps as maps
use Rattle.std.specs.List.{All}
use Rattle.dl_base.specs.declared.file.File.{File}
use Rattle.dl_base.specs.declared.value.LinkRow.{LinkRow}
use Rattle.dl_codec.specs.declared.links.BranchPhase.{BranchPhase}
use Rattle.dl_codec.specs.declared.links.BranchPhase.TheVariants.{Prepared, Committed, Done, Aborted}
use Rattle.meaning_examples.specs.UserFiles.{Files}
use Rattle.meaning_tables.specs.Fits.{differ}
use Rattle.meaning_tables.specs.Links.{links}
use Rattle.meaning_tables.specs.Tables.{Tables}
use Rattle.meaning_examples.specs.Apart.{ShareNoPath, IsReady}
use Rattle.meaning_examples.specs.Keyed.{is_at}
use Rattle.meaning_examples.specs.Settled.{settled, AreDistinct}
use Rattle.meaning_examples.specs.Settling.{Copy, Copies, Moved, Kept, on, numbered, link_key}
use Rattle.meaning_examples.specs.Branches.{Branch, Branches, branch, is_phase}
use Rattle.meaning_examples.specs.Commits.{Commit, commit_of, tables_after, HaveMoved, has_number}
use Rattle.meaning_examples.specs.Lists.{Folds}
use Rattle.meaning_examples.specs.Copies.{Backup}

-- in doubt: neither Done nor Aborted
abbrev pub is_open : BranchPhase → Bool
is_open Prepared = true
is_open Committed = true
is_open Done = false
is_open Aborted = false

abbrev pub is_past : BranchPhase → Bool
is_past Prepared = false
is_past Committed = true
is_past Done = true
is_past Aborted = false

abbrev pub open_branch : Option Branch → Option Moved
open_branch None = None
open_branch (Some b) = if is_open b.phase then Some b.moved else None

abbrev pub open_in : Branches → ℕ → Option Moved
open_in l tx = open_branch (maps.get l.table tx)

abbrev pub txs_of : List Commit → List ℕ
txs_of cs = map (λ c. c.tx) cs

abbrev pub kept_of : Folds → Kept
kept_of f = record { files = f.files; copies = f.copies; held = f.links.held }

-- THE STORED PART: what is left of a machine's state after a stop, settled
pub record Stored : Type 0 where
  pub commits : List Commit
  pub files : Files
  pub copies : Copies
  pub backups : List Backup
  pub rows_opening : ℕ
  pub links_opening : ℕ

abbrev pub stored_with : List Commit → List Backup → ℕ → ℕ → Kept → Stored
stored_with commits backups rows_opening links_opening k = record { commits = commits; files = k.files; copies = k.copies; backups = backups; rows_opening = rows_opening; links_opening = links_opening }

-- the committed branches in doubt are settled in order of commit, and the others dropped
abbrev pub settled_of : Folds → Kept
settled_of f = settled (open_in f.links) (txs_of f.rows.commits) (kept_of f)

abbrev pub stored_of : Folds → Stored
stored_of f = stored_with f.rows.commits f.backups f.rows.opening f.links.opening (settled_of f)

-- the branch of a commit with these links
abbrev pub IsBranch : Bool → List LinkRow → List LinkRow → Option Branch → Type 0
IsBranch true gives takes o = (fill : Bool) × (p : BranchPhase) × (o ≡ Some (branch (record { gives = gives; takes = takes; fill = fill }) p)) × (is_phase p Aborted ≡ false)
IsBranch false gives takes o = (o ≡ None) × (gives ≡ []) × (takes ≡ [])

-- each link of a list is of a transaction whose number is of no later opening
abbrev pub AreDrawn : ℕ → List LinkRow → Type 0
AreDrawn opening ls = All (λ l. l.link.tx / 2 ^ 32 ≤ opening) ls

abbrev pub IsCommit : Commit → List Commit → Type 0
IsCommit c [] = ⊥
IsCommit c (d ∷ ds) = (c ≡ d) ⊎ IsCommit c ds

-- what committed branches in doubt give with RECOVERY YES has a copy, or a file of which one can be made
abbrev pub AreReady : Folds → Type 0
AreReady f = (tx : ℕ) (m : Moved) → is_some (commit_of tx f.rows.commits) ≡ true → open_in f.links tx ≡ Some m → IsReady m (kept_of f)

-- How Rows and Links must fit each other before settling, and what else is asked of the branches in doubt.
pub record Compared (f : Folds) (Ready : Type 0) : Type 0 where
  -- no two commits are of one transaction, and each has the links that it took away and added: the fold makes no others
  pub distinct : AreDistinct (txs_of f.rows.commits)
  pub moved : HaveMoved [] f.rows.commits
  -- a commit with a branch has a Prepared of its number, not aborted, with the links that it took away and added; one without
  -- changes no link, and has no Prepared
  pub branches : (tx : ℕ) (c : Commit) → commit_of tx f.rows.commits ≡ Some c → IsBranch c.branch c.gives c.takes (maps.get f.links.table tx)
  -- each Committed has a commit, and each Ended a Done
  pub decided : (tx : ℕ) (b : Branch) → maps.get f.links.table tx ≡ Some b → is_past b.phase ≡ true → is_some (commit_of tx f.rows.commits) ≡ true
  pub ended : (tx : ℕ) → has_number tx f.rows.ended ≡ true → (m : Moved) × (maps.get f.links.table tx ≡ Some (branch m Done))
  -- branches in doubt have different paths from each other
  pub apart : (t u : ℕ) → t ≢ u → (a b : Moved) → open_in f.links t ≡ Some a → open_in f.links u ≡ Some b → ShareNoPath a b
  pub ready : Ready
  -- what is held after settling is what the last commit links
  pub held : (p : List ℕ) → maps.get (settled_of f).held p ≡ on (links (tables_after [] f.rows.commits)) p
  -- no transaction number is of a later opening than the last of Rows, also inside a link number
  pub numbers : (tx : ℕ) → f.rows.opening < tx / 2 ^ 32 → (commit_of tx f.rows.commits ≡ None) × (maps.get f.links.table tx ≡ None)
  pub drawn_commits : (c : Commit) → IsCommit c f.rows.commits → AreDrawn f.rows.opening (links c.tables)
  pub drawn_branches : (tx : ℕ) (b : Branch) → maps.get f.links.table tx ≡ Some b → AreDrawn f.rows.opening b.moved.gives × AreDrawn f.rows.opening b.moved.takes

abbrev pub Compares : Folds → Type 0
Compares f = Compared f (AreReady f)

-- the tables after commit n, from 0
abbrev pub past : Tables → List Commit → ℕ → Option Tables
past tables cs zero = Some tables
past tables [] (suc n) = None
past tables (c ∷ cs) (suc n) = past c.tables cs n

-- What holds of each stored part, after settling.

-- the links after each commit have distinct paths
abbrev pub HavePaths : Stored → Type 0
HavePaths s = (c : Commit) → IsCommit c s.commits → IsTrue (differ is_at (map (λ l. l.path) (links c.tables)))

-- a link number has one path and the same options in all commits
abbrev pub AreOneLink : Stored → Type 0
AreOneLink s = (c d : Commit) (n : List ℕ) (x y : LinkRow) → IsCommit c s.commits → IsCommit d s.commits → numbered (links c.tables) n ≡ Some x → numbered (links d.tables) n ≡ Some y → x ≡ y

-- each committed link has a file
abbrev pub HaveFiles : Stored → Type 0
HaveFiles s = (p : List ℕ) (l : LinkRow) → on (links (tables_after [] s.commits)) p ≡ Some l → is_some (maps.get s.files p) ≡ true

-- each copy is of a link with RECOVERY YES of some commit
abbrev pub AreOfLinks : Stored → Type 0
AreOfLinks s = (n : List ℕ) → is_some (maps.get s.copies n) ≡ true → (c : Commit) × (l : LinkRow) × IsCommit c s.commits × (numbered (links c.tables) n ≡ Some l) × (l.options.recovery ≡ true)

-- each such link that is not committed any more has a copy
abbrev pub AreArchived : Stored → Type 0
AreArchived s = (c : Commit) (n : List ℕ) (l : LinkRow) → IsCommit c s.commits → numbered (links c.tables) n ≡ Some l → l.options.recovery ≡ true → numbered (links (tables_after [] s.commits)) n ≡ None → is_some (maps.get s.copies n) ≡ true

-- a committed link that has a copy has the copy's bytes at its path
abbrev pub HaveBytes : Stored → Type 0
HaveBytes s = (p : List ℕ) (l : LinkRow) (c : Copy) (f : File) → on (links (tables_after [] s.commits)) p ≡ Some l → maps.get s.copies (link_key l.link) ≡ Some c → maps.get s.files p ≡ Some f → f.bytes ≡ c.bytes

-- each backup is the tables after its commit
abbrev pub AreOfPast : Stored → Type 0
AreOfPast s = All (λ x. past [] s.commits x.commit ≡ Some x.tables) s.backups

pub record IsWhole (s : Stored) : Type 0 where
  pub paths : HavePaths s
  pub one_path : AreOneLink s
  pub files : HaveFiles s
  pub copies : AreOfLinks s
  pub archived : AreArchived s
  pub bytes : HaveBytes s
  pub backups : AreOfPast s

-- THE LISTS STAND FOR THIS
pub record IsStand (f : Folds) (s : Stored) : Type 0 where
  pub compares : Compares f
  pub whole : IsWhole s
  pub is : s ≡ stored_of f
