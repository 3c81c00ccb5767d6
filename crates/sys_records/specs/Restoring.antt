-- A restore by the owners of the areas: what its plan moves, its commit, its records, and when these can be written.
use Rattle.std.specs.Prelude.{◌≡◌, ◌≤◌, ◌+◌, ◌++◌, ◌∷◌, ℕ, Bool, List, length, true, false, is_some, Option, Some, None}
use Rattle.std.specs.FinMap as maps
use Rattle.std.specs.List.{list_any}
use Rattle.bk_restore.specs.declared.planning.RestorePlan.{RestorePlan}
use Rattle.db_changes.specs.Made.{Making, record_of, rooms_for}
use Rattle.db_store.specs.Store.{CanEnd, IsTaken, committed_with}
use Rattle.dl_base.specs.declared.value.LinkRow.{LinkRow}
use Rattle.dl_codec.specs.Rows.{rows_record}
use Rattle.dl_codec.specs.declared.links.BranchPhase.TheVariants as branch_phases
use Rattle.fm_manager.specs.Managed.{AreSpelled, IsTakenBy, Managed, kept_in}
use Rattle.fm_manager.specs.Pieces.{AreOf, HaveRoom, IsDoubtful, Pieces, manager_part, settling_part}
use Rattle.meaning_areas.specs.Commits.{Commits}
use Rattle.meaning_areas.specs.Lists.{Folds, Written, folds_on, in_rows}
use Rattle.meaning_areas.specs.Stands.{kept_of}
use Rattle.meaning_settling.specs.Settling.{Moved}
use Rattle.meaning_areas.specs.Full.{draw_full}
use Rattle.meaning_system.specs.State.{has_links}
use Rattle.meaning_system.specs.Writes.{prepared, whole_finish}
use Rattle.sys_owners.specs.Owned.{Owned, folds_in}
use Rattle.sys_records.specs.declared.restoring.Restoration.{Restoration}

-- these links are given and taken, those with RECOVERY YES among the taken ones to be filled, or none
abbrev pub moving : List LinkRow → List LinkRow → Bool → Moved
moving gives takes fill = record { gives = gives; takes = takes; fill = fill }

-- WHAT A PLAN COMES TO: what it moves, and its commit, as that of the transaction of a number

abbrev pub moved_by : RestorePlan → Moved
moved_by p = moving p.gives p.takes p.fill

abbrev pub making_by : ℕ → RestorePlan → Making
making_by tx p = record { tx = tx; branch = has_links (moved_by p); changes = p.changes; handles = p.handles; rooms = rooms_for p.handles }

-- what is made for one moves
abbrev pub moved_in : Restoration → Moved
moved_in r = moving r.gives r.takes r.fill

-- THE RECORDS OF A RESTORE over what the lists stand for: those behind its Prepared are the commit and its whole Finish

abbrev pub commit_part : Folds → Making → Moved → List Written
commit_part f m gone = in_rows (record_of m (length f.rows.commits + 1)) ∷ whole_finish m.tx gone (kept_of f)

abbrev pub restore_part : Folds → Making → Moved → List Written
restore_part f m gone = prepared m.tx gone ++ commit_part f m gone

-- THE PIECES OF ITS FINISH, made for it: there is room for them, and each of their records has a spelling

pub record HasMade (m : Managed) (tx : ℕ) (gone : Moved) (p : Pieces) : Type 0 where
  pub has : has_links gone ≡ true
  pub own : p.tx ≡ tx
  pub of : AreOf p gone (kept_in m)
  pub room : HaveRoom p m

abbrev pub ArePieces : Managed → ℕ → Moved → Option Pieces → Type 0
ArePieces m tx gone None = has_links gone ≡ false
ArePieces m tx gone (Some p) = HasMade m tx gone p

abbrev pub ArePiecesSpelled : Option Pieces → Type 0
ArePiecesSpelled None = Unit {0}
ArePiecesSpelled (Some p) = AreSpelled (settling_part p.tx p.copies p.changes)

-- ITS FINISH CAN BE WRITTEN: its commit is there, its branch is in doubt, and the folds take the records

pub record CanSettle (m : Managed) (r : Commits) (tx : ℕ) (gone : Moved) (p : Pieces) : Type 0 where
  pub made : HasMade m tx gone p
  pub doubt : IsDoubtful m tx gone branch_phases.Prepared
  pub taken : IsTakenBy m (manager_part tx branch_phases.Prepared gone (kept_in m))
  pub end : CanEnd r tx

abbrev pub MaySettle : Managed → Commits → ℕ → Moved → Option Pieces → Type 0
MaySettle m r tx gone None = has_links gone ≡ false
MaySettle m r tx gone (Some p) = CanSettle m r tx gone p

-- ITS COMMIT CAN BE WRITTEN, and then its Finish
pub record CanCommit (w : Owned) (r : Restoration) : Type 0 where
  pub commit : IsTaken w.store.rows r.made
  pub room : r.made.rooms ≤ w.store.spare
  pub settle : MaySettle w.manager (committed_with w.store.rows r.made) r.made.tx (moved_in r) r.pieces

-- ALL OF IT CAN BE WRITTEN: no branch has its number, and the folds take its records
pub record CanWrite (w : Owned) (r : Restoration) : Type 0 where
  pub commit : IsTaken w.store.rows r.made
  pub room : r.made.rooms ≤ w.store.spare
  pub left : draw_full (w.store.drawn + 1) ≡ None
  pub pieces : ArePieces w.manager r.made.tx (moved_in r) r.pieces
  pub fill : r.fill ≡ list_any (λ t. t.options.recovery) r.takes
  pub free : maps.get w.manager.links.links.table r.made.tx ≡ None
  pub taken : is_some (folds_on (Some (folds_in w)) (restore_part (folds_in w) r.made (moved_in r))) ≡ true
  pub end : has_links (moved_in r) ≡ true → CanEnd (committed_with w.store.rows r.made) r.made.tx

-- WHAT WAS MADE FOR A PLAN, as that of the transaction of a number: it is the plan's, and all of it has spellings but its Prepared
pub record IsMadeFor (w : Owned) (tx : ℕ) (p : RestorePlan) (r : Restoration) : Type 0 where
  pub lost : r.lost ≡ p.lost
  pub made : r.made ≡ making_by tx p
  pub gives : r.gives ≡ p.gives
  pub takes : r.takes ≡ p.takes
  pub fill : r.fill ≡ p.fill
  pub pieces : ArePieces w.manager tx (moved_by p) r.pieces
  pub spelled : ArePiecesSpelled r.pieces
  pub fits : rows_record.fits (record_of (making_by tx p) (length w.store.rows.commits + 1))
