-- The pieces of a Finish: what it writes beside the marks of its branch.
use Rattle.std.specs.Prelude.{◌≡◌, ◌≤◌, ◌++◌, ◌∷◌, [], ℕ, List, length, map, Bool, true, false, Option, Some, None}
use Rattle.std.specs.FinMap as maps
use Rattle.dl_base.specs.declared.file.FileChange.{FileChange}
use Rattle.dl_codec.specs.declared.archive.ArchiveRecord.TheVariants as archive_records
use Rattle.dl_codec.specs.declared.archive.FileCopy.{FileCopy}
use Rattle.dl_codec.specs.declared.links.BranchPhase.{BranchPhase}
use Rattle.dl_codec.specs.declared.links.LinksRecord.TheVariants as links_records
use Rattle.fs_files.specs.Batch.{Batch, puts}
use Rattle.meaning_areas.specs.Branches.{branch}
use Rattle.meaning_areas.specs.Finishing.{batch_changes, batch_of, committed_record, copy_records}
use Rattle.meaning_areas.specs.Lists.{Written, in_archive, in_links}
use Rattle.meaning_areas.specs.Stands.{is_open}
use Rattle.meaning_settling.specs.Settling.{Kept, Moved}
use Rattle.fm_manager.specs.Managed.{IsTakenBy, Managed, kept_in}

-- The transaction, the copies that are to be stored, in order, and the changes of files.
pub record Pieces : Type 0 where
  pub tx : ℕ
  pub copies : List FileCopy
  pub changes : List FileChange

-- the changes of a batch, if there is one; and that it is the transaction's and changes something

abbrev pub changes_in : Option Batch → List FileChange
changes_in None = []
changes_in (Some b) = b.changes

abbrev pub IsBatchOf : ℕ → Option Batch → Type 0
IsBatchOf tx None = Unit {0}
IsBatchOf tx (Some b) = (b.tx ≡ tx) × (c : FileChange) × (cs : List FileChange) × (b.changes ≡ c ∷ cs)

-- these are the pieces of the Finish of a transaction that moves this, over these files and copies
pub record AreOf (p : Pieces) (m : Moved) (k : Kept) : Type 0 where
  pub copies : map (λ c. in_archive (archive_records.Copy c)) p.copies ≡ copy_records m k
  pub changes : p.changes ≡ batch_changes m k

-- the records of a Finish in the three areas, those that are not there yet
abbrev pub manager_part : ℕ → BranchPhase → Moved → Kept → List Written
manager_part tx p m k = committed_record tx p ++ (copy_records m k ++ (batch_of tx (batch_changes m k) ++ in_links (links_records.Done tx) ∷ []))

-- the room that they take
pub record HaveRoom (p : Pieces) (m : Managed) : Type 0 where
  pub copies : length p.copies ≤ m.archive.spare
  pub files : puts p.changes ≤ m.files.spare

-- the branch of a transaction, which is in doubt
pub record IsDoubtful (m : Managed) (tx : ℕ) (moved : Moved) (phase : BranchPhase) : Type 0 where
  pub is : maps.get m.links.links.table tx ≡ Some (branch moved phase)
  pub open_phase : is_open phase ≡ true

-- a Finish of these pieces can be written: their branch is in doubt, they are what it moves, and the folds take its records
abbrev pub CanFinish : Managed → Pieces → Type 0
CanFinish m p = (moved : Moved) × (phase : BranchPhase) × IsDoubtful m p.tx moved phase × AreOf p moved (kept_in m) × IsTakenBy m (manager_part p.tx phase moved (kept_in m))

-- the records of copies
abbrev pub copies_written : List FileCopy → List Written
copies_written cs = map (λ c. in_archive (archive_records.Copy c)) cs

-- what stands behind the mark of a Finish
abbrev pub settling_part : ℕ → List FileCopy → List FileChange → List Written
settling_part tx copies changes = copies_written copies ++ (batch_of tx changes ++ in_links (links_records.Done tx) ∷ [])

-- the mark that a Finish writes first, if it is to
abbrev pub marks_if : Bool → ℕ → List Written
marks_if true tx = in_links (links_records.Committed tx) ∷ []
marks_if false tx = []
