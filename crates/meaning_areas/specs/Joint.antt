-- What lists and machine have in common between two steps.
use Rattle.std.specs.Prelude.{◌≡◌, ◌≢◌, ◌⊎◌, ℕ, ◌+◌, ◌*◌, ◌^◌, ◌<◌, true, false, if◌then◌else◌, List, [], Option, Some, None}
use Rattle.std.specs.FinMap as maps
use Rattle.dl_codec.specs.declared.links.BranchPhase.{BranchPhase}
use Rattle.dl_codec.specs.declared.links.BranchPhase.TheVariants.{Prepared, Done, Aborted}
use Rattle.meaning_settling.specs.Apart.{ShareNoPath, IsReady}
use Rattle.meaning_settling.specs.Settled.{settled, AreDistinct}
use Rattle.meaning_settling.specs.Settling.{Moved, on}
use Rattle.meaning_tables.specs.Links.{links}
use Rattle.meaning_areas.specs.Branches.{Branch, branch}
use Rattle.meaning_areas.specs.Commits.{Commit, commit_of, tables_after, HaveMoved, has_number}
use Rattle.meaning_areas.specs.Core.{Stage, active, prepared, decided, Work, Core, decided_in, core_stored}
use Rattle.meaning_areas.specs.Lists.{Folds}
use Rattle.meaning_areas.specs.Stands.{is_open, txs_of, kept_of, AreDrawn, IsCommit, IsWhole}

-- never prepared, or aborted
abbrev pub IsDropped : Option Branch → Type 0
IsDropped b = (b ≡ None) ⊎ ((m : Moved) × (b ≡ Some (branch m Aborted)))

-- a transaction without links has no branch
abbrev pub branch_for : Work → BranchPhase → Option Branch
branch_for w p = if w.branch then Some (branch w.moved p) else None

-- a commit of these links
pub record IsCommitOf (w : Work) (c : Option Commit) : Type 0 where
  pub commit : Commit
  pub at : c ≡ Some commit
  pub branch : commit.branch ≡ w.branch
  pub gives : commit.gives ≡ w.moved.gives
  pub takes : commit.takes ≡ w.moved.takes

-- commit and branch of a transaction that the machine has at this stage
abbrev pub AgreesAt : Stage → Work → Option Commit → Option Branch → Type 0
AgreesAt active w c b = (c ≡ None) × (b ≡ None)
AgreesAt prepared w c b = (c ≡ None) × (b ≡ branch_for w Prepared)
AgreesAt decided w c b = IsCommitOf w c × (p : BranchPhase) × (b ≡ branch_for w p) × (is_open p ≡ true)

-- and of one that it hasn't: dropped, finished, of an earlier opening, or not drawn yet
pub record IsOver (c : Option Commit) (b : Option Branch) : Type 0 where
  pub work : Work
  pub commit : IsCommitOf work c
  pub done : b ≡ branch_for work Done
  pub plain : work.branch ≡ false → (work.moved.gives ≡ []) × (work.moved.takes ≡ [])

abbrev pub AgreesOld : Option Commit → Option Branch → Type 0
AgreesOld c b = ((c ≡ None) × IsDropped b) ⊎ IsOver c b

abbrev pub Agrees : Option Work → Option Commit → Option Branch → Type 0
Agrees None c b = AgreesOld c b
Agrees (Some w) c b = AgreesAt w.stage w c b

-- THE JOINT INVARIANT
pub record Joint (f : Folds) (c : Core) : Type 0 where
  pub commits : f.rows.commits ≡ c.commits
  pub rows_opening : f.rows.opening ≡ c.rows_opening
  pub links_opening : f.links.opening ≡ c.links_opening
  pub files : f.files ≡ c.files
  pub copies : f.copies ≡ c.copies
  pub backups : f.backups ≡ c.backups
  pub agrees : (tx : ℕ) → Agrees (c.works tx) (commit_of tx f.rows.commits) (maps.get f.links.table tx)
  pub ended : (tx : ℕ) → has_number tx f.rows.ended ≡ true → (m : Moved) × (maps.get f.links.table tx ≡ Some (branch m Done))
  pub distinct : AreDistinct (txs_of f.rows.commits)
  pub moved : HaveMoved [] f.rows.commits
  -- the paths of no two transactions meet: each holds its own
  pub apart : (t u : ℕ) → t ≢ u → (w v : Work) → c.works t ≡ Some w → c.works u ≡ Some v → ShareNoPath w.moved v.moved
  pub plain : (t : ℕ) (w : Work) → c.works t ≡ Some w → w.branch ≡ false → (w.moved.gives ≡ []) × (w.moved.takes ≡ [])
  pub ready : (t : ℕ) (m : Moved) → decided_in c t ≡ Some m → IsReady m (kept_of f)
  pub held : (p : List ℕ) → maps.get (settled (decided_in c) (txs_of f.rows.commits) (kept_of f)).held p ≡ on (links (tables_after [] f.rows.commits)) p
  pub numbers : (t : ℕ) → c.drawn < t → (c.works t ≡ None) × (commit_of t f.rows.commits ≡ None) × (maps.get f.links.table t ≡ None)
  pub small : c.drawn < (c.rows_opening + 1) * 2 ^ 32
  pub drawn_commits : (x : Commit) → IsCommit x f.rows.commits → AreDrawn f.rows.opening (links x.tables)
  pub drawn_branches : (tx : ℕ) (b : Branch) → maps.get f.links.table tx ≡ Some b → AreDrawn f.rows.opening b.moved.gives × AreDrawn f.rows.opening b.moved.takes
  pub whole : IsWhole (core_stored c)
