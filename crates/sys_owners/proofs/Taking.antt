-- RECORDS OF THE MANAGER are taken whatever commits and backups stand beside its lists; and so is a Finish that can be written.
use Rattle.std.proofs.Common.{◌≡◌, ℕ, List, [], ◌∷◌, ◌++◌, Option, Some, None, is_some, true, refl, sym, ◌∙◌, ap, subst, append_assoc}
use Rattle.dl_base.specs.declared.file.FileChange.{FileChange}
use Rattle.dl_codec.specs.declared.archive.FileCopy.{FileCopy}
use Rattle.dl_codec.specs.declared.links.BranchPhase.{BranchPhase}
use Rattle.dl_codec.specs.declared.links.BranchPhase.TheVariants as phases
use Rattle.dl_codec.specs.declared.links.LinksRecord.TheVariants as links_records
use Rattle.dl_codec.specs.declared.rows.RowsRecord.TheVariants as rows_records
use Rattle.fm_manager.specs.Managed.{IsTakenBy, Managed, Roomier, folds_with}
use Rattle.fm_manager.specs.Pieces.{AreOf, CanFinish, Pieces, copies_written, manager_part}
use Rattle.meaning_areas.specs.Branches.{Branches, links_step}
use Rattle.meaning_areas.specs.Commits.{Commits}
use Rattle.meaning_areas.specs.Copies.{Backup, copies_step}
use Rattle.meaning_areas.specs.Finishing.{batch_changes, batch_of, committed_record, copy_records, finish_records}
use Rattle.meaning_areas.specs.Lists.{Folds, Written, files_step, folds_on, folds_step, in_archive, in_backups, in_files, in_links, in_rows, with_copies, with_files, with_links}
use Rattle.meaning_files.specs.Files.{Files}
use Rattle.meaning_settling.specs.Settling.{Copies, Kept, Moved}

-- a record of one of the manager's areas

abbrev pub IsManaged : Written → Type 0
IsManaged (in_rows x) = ⊥
IsManaged (in_links x) = Unit {0}
IsManaged (in_files x) = Unit {0}
IsManaged (in_archive x) = Unit {0}
IsManaged (in_backups x) = ⊥

abbrev pub AreManaged : List Written → Type 0
AreManaged [] = Unit {0}
AreManaged (x ∷ xs) = IsManaged x × AreManaged xs

-- lists with other commits and backups beside them

module _ (rows : Commits) (backups : List Backup) where
  abbrev beside : Folds → Folds
  beside f = record { rows = rows; links = f.links; files = f.files; copies = f.copies; backups = backups }

  abbrev all-beside : Option Folds → Option Folds
  all-beside None = None
  all-beside (Some f) = Some (beside f)

  links-beside : (f : Folds) (o : Option Branches) → with_links (beside f) o ≡ all-beside (with_links f o)
  links-beside f None = refl
  links-beside f (Some l) = refl

  files-beside : (f : Folds) (o : Option Files) → with_files (beside f) o ≡ all-beside (with_files f o)
  files-beside f None = refl
  files-beside f (Some l) = refl

  copies-beside : (f : Folds) (o : Option Copies) → with_copies (beside f) o ≡ all-beside (with_copies f o)
  copies-beside f None = refl
  copies-beside f (Some l) = refl

  step-beside : (x : Written) → IsManaged x → (f : Folds) → folds_step (beside f) x ≡ all-beside (folds_step f x)
  step-beside (in_rows x) is f = absurd is
  step-beside (in_links x) is f = links-beside f (links_step f.links x)
  step-beside (in_files x) is f = files-beside f (files_step f.files x)
  step-beside (in_archive x) is f = copies-beside f (copies_step f.copies x)
  step-beside (in_backups x) is f = absurd is

  on-beside : (xs : List Written) → AreManaged xs → (o : Option Folds) → folds_on (all-beside o) xs ≡ all-beside (folds_on o xs)
  on-beside [] are o = refl
  on-beside (x ∷ xs) are None = on-beside xs are.1 None
  on-beside (x ∷ xs) are (Some f) = ap (λ (o : Option Folds). folds_on o xs) (step-beside x are.0 f) ∙ on-beside xs are.1 (folds_step f x)

  some-beside : (o : Option Folds) → is_some (all-beside o) ≡ is_some o
  some-beside None = refl
  some-beside (Some f) = refl

  taken-beside : (f : Folds) (xs : List Written) → AreManaged xs → is_some (folds_on (Some f) xs) ≡ true → is_some (folds_on (Some (beside f)) xs) ≡ true
  taken-beside f xs are taken = ap is_some (on-beside xs are (Some f)) ∙ some-beside (folds_on (Some f) xs) ∙ taken

pub taken-anywhere : (m : Managed) (rows : Commits) (backups : List Backup) (xs : List Written) → AreManaged xs → is_some (folds_on (Some (folds_with rows backups m)) xs) ≡ true → IsTakenBy m xs
taken-anywhere m rows backups xs are taken others more = taken-beside others more (folds_with rows backups m) xs are taken

-- the manager's part of a Finish

managed-append : (xs ys : List Written) → AreManaged xs → AreManaged ys → AreManaged (xs ++ ys)
managed-append [] ys first second = second
managed-append (x ∷ xs) ys first second = (first.0, managed-append xs ys first.1 second)

managed-mark : (tx : ℕ) (p : BranchPhase) → AreManaged (committed_record tx p)
managed-mark tx phases.Prepared = (tt, tt)
managed-mark tx phases.Committed = tt
managed-mark tx phases.Done = tt
managed-mark tx phases.Aborted = tt

managed-copies : (cs : List FileCopy) → AreManaged (copies_written cs)
managed-copies [] = tt
managed-copies (c ∷ cs) = (tt, managed-copies cs)

managed-batch : (tx : ℕ) (cs : List FileChange) → AreManaged (batch_of tx cs)
managed-batch tx [] = tt
managed-batch tx (c ∷ cs) = (tt, tt)

pub part-managed : (q : Pieces) (tx : ℕ) (p : BranchPhase) (m : Moved) (k : Kept) → AreOf q m k → AreManaged (manager_part tx p m k)
part-managed q tx p m k of =
    let last : List Written = in_links (links_records.Done tx) ∷ [] in
    managed-append (committed_record tx p) (copy_records m k ++ (batch_of tx (batch_changes m k) ++ last)) (managed-mark tx p)
    (managed-append (copy_records m k) (batch_of tx (batch_changes m k) ++ last) (subst (λ (xs : List Written). AreManaged xs) of.copies (managed-copies q.copies))
    (managed-append (batch_of tx (batch_changes m k)) last (managed-batch tx (batch_changes m k)) (tt, tt)))

-- behind it the end of the branch
pub finish-last : (tx : ℕ) (p : BranchPhase) (m : Moved) (k : Kept) → finish_records tx p m k ≡ manager_part tx p m k ++ in_rows (rows_records.Ended tx) ∷ []
finish-last tx p m k = by (committed_record tx p) (copy_records m k) (batch_of tx (batch_changes m k)) (in_links (links_records.Done tx)) (in_rows (rows_records.Ended tx))
  where
    by : (a b c : List Written) (x y : Written) → ((a ++ b) ++ c) ++ x ∷ y ∷ [] ≡ (a ++ (b ++ (c ++ x ∷ []))) ++ y ∷ []
    by a b c x y = simp append_assoc

-- it can be written as well where there is more room
pub can-again : (m n : Managed) (q : Pieces) → Roomier m n → CanFinish m q → CanFinish n q
can-again m n q r can = subst (λ (k : Managed). CanFinish k q) (sym r.same) (can.0, can.1, record { is = can.2.is; open_phase = can.2.open_phase }, can.3, can.4)
