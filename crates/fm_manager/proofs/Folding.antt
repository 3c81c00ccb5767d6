-- What the records of the manager's calls make of the lists.
use Rattle.std.proofs.Common.{◌≡◌, ◌≤◌, ℕ, arith, length, Result, Ok, Err, OnOk, List, [], ◌∷◌, ◌++◌, Option, Some, None, is_some, true, false, refl, sym, ◌∙◌, ap, subst}
use Rattle.std.specs.Option.{option_and_then}
use Rattle.dl_areas.specs.Lists.{Write}
use Rattle.dl_base.specs.declared.file.FileChange.{FileChange}
use Rattle.dl_codec.specs.declared.archive.ArchiveRecord.{ArchiveRecord}
use Rattle.dl_codec.specs.declared.files.FilesRecord.{FilesRecord}
use Rattle.dl_codec.specs.declared.files.FilesRecord.TheVariants as changed
use Rattle.dl_codec.specs.declared.links.BranchPhase.{BranchPhase}
use Rattle.dl_codec.specs.declared.links.BranchPhase.TheVariants as phases
use Rattle.dl_codec.specs.declared.links.LinksRecord.{LinksRecord}
use Rattle.dl_codec.specs.declared.links.LinksRecord.TheVariants as links_records
use Rattle.fm_archive.specs.Stock.{Stock}
use Rattle.fm_branch.specs.Linked.{Linked}
use Rattle.fs_files.specs.Batch.{Batch}
use Rattle.fs_files.specs.Store.{Catalog}
use Rattle.meaning_areas.specs.Branches.{Branch, Branches, links_step, moves_on}
use Rattle.meaning_areas.specs.Commits.{no_commits}
use Rattle.meaning_areas.specs.Copies.{copies_step}
use Rattle.meaning_areas.specs.Lists.{Folds, Written, in_archive, in_files, in_links, files_step, folds_on, folds_step, with_copies, with_files, with_links}
use Rattle.meaning_areas.specs.Finishing.{batch_of, committed_record}
use Rattle.meaning_files.specs.Files.{Files, with_changes}
use Rattle.meaning_settling.specs.Settling.{Copies, Moved}
use Rattle.fm_manager.specs.Managed.{FoldsTo, IsTakenBy, Managed, as_write, as_writes, folds_with}
use Rattle.fm_manager.specs.Pieces.{IsBatchOf, IsDoubtful, marks_if}

-- several records, and several more

pub folds-append : (o : Option Folds) (xs ys : List Written) → folds_on o (xs ++ ys) ≡ folds_on (folds_on o xs) ys
folds-append o [] ys = refl
folds-append o (x ∷ xs) ys = folds-append (option_and_then (λ f. folds_step f x) o) xs ys

folds-none : (xs : List Written) → folds_on None xs ≡ None
folds-none [] = refl
folds-none (x ∷ xs) = folds-none xs

pub writes-append : (xs ys : List Written) → as_writes (xs ++ ys) ≡ as_writes xs ++ as_writes ys
writes-append [] ys = refl
writes-append (x ∷ xs) ys = ap (λ (ws : List Write). as_write x ∷ ws) (writes-append xs ys)

some-first : (o : Option Folds) (ys : List Written) → is_some (folds_on o ys) ≡ true → is_some o ≡ true
some-first (Some f) ys e = refl
some-first None ys e = absurd (false_true (sym (ap is_some (folds-none ys)) ∙ e))
  where
    false_true : false ≡ true → ⊥
    false_true e = absurd cc

module _ (m k n : Managed) (xs ys : List Written) where
  pub to-then : FoldsTo m k xs → FoldsTo k n ys → FoldsTo m n (xs ++ ys)
  to-then first second rows backups = folds-append (Some (folds_with rows backups m)) xs ys ∙ ap (λ (o : Option Folds). folds_on o ys) (first rows backups) ∙ second rows backups

  pub taken-first : IsTakenBy m (xs ++ ys) → IsTakenBy m xs
  taken-first taken rows backups = some-first (folds_on (Some (folds_with rows backups m)) xs) ys (ap is_some (sym (folds-append (Some (folds_with rows backups m)) xs ys)) ∙ taken rows backups)

  pub taken-rest : IsTakenBy m (xs ++ ys) → FoldsTo m k xs → IsTakenBy k ys
  taken-rest taken first rows backups = ap is_some (sym (folds-append (Some (folds_with rows backups m)) xs ys ∙ ap (λ (o : Option Folds). folds_on o ys) (first rows backups))) ∙ taken rows backups

-- one record of an area

pub links-to : (m : Managed) (x : LinksRecord) (l : Linked) → links_step m.links.links x ≡ Some l.links → FoldsTo m (record m { links = l }) (in_links x ∷ [])
links-to m x l is rows backups = ap (with_links (folds_with rows backups m)) is

pub files-to : (m : Managed) (x : FilesRecord) (f : Catalog) → files_step m.files.files x ≡ Some f.files → FoldsTo m (record m { files = f }) (in_files x ∷ [])
files-to m x f is rows backups = ap (with_files (folds_with rows backups m)) is

pub archive-to : (m : Managed) (x : ArchiveRecord) (a : Stock) → copies_step m.archive.copies x ≡ Some a.copies → FoldsTo m (record m { archive = a }) (in_archive x ∷ [])
archive-to m x a is rows backups = ap (with_copies (folds_with rows backups m)) is

-- a record that is taken by all five is taken by its own fold

links-some : (f : Folds) (o : Option Branches) → is_some (with_links f o) ≡ true → is_some o ≡ true
links-some f (Some l) e = refl
links-some f None e = e

files-some : (f : Folds) (o : Option Files) → is_some (with_files f o) ≡ true → is_some o ≡ true
files-some f (Some l) e = refl
files-some f None e = e

copies-some : (f : Folds) (o : Option Copies) → is_some (with_copies f o) ≡ true → is_some o ≡ true
copies-some f (Some l) e = refl
copies-some f None e = e

pub links-taken : (m : Managed) (x : LinksRecord) (xs : List Written) → IsTakenBy m (in_links x ∷ xs) → is_some (links_step m.links.links x) ≡ true
links-taken m x xs taken = links-some (folds_with no_commits [] m) (links_step m.links.links x) (some-first (with_links (folds_with no_commits [] m) (links_step m.links.links x)) xs (taken no_commits []))

pub files-taken : (m : Managed) (x : FilesRecord) (xs : List Written) → IsTakenBy m (in_files x ∷ xs) → is_some (files_step m.files.files x) ≡ true
files-taken m x xs taken = files-some (folds_with no_commits [] m) (files_step m.files.files x) (some-first (with_files (folds_with no_commits [] m) (files_step m.files.files x)) xs (taken no_commits []))

pub archive-taken : (m : Managed) (x : ArchiveRecord) (xs : List Written) → IsTakenBy m (in_archive x ∷ xs) → is_some (copies_step m.archive.copies x) ≡ true
archive-taken m x xs taken = copies-some (folds_with no_commits [] m) (copies_step m.archive.copies x) (some-first (with_copies (folds_with no_commits [] m) (copies_step m.archive.copies x)) xs (taken no_commits []))

-- the changes of a batch are taken where its record is
pub batch-taken : (m : Managed) (tx : ℕ) (b : Batch) → IsBatchOf tx (Some b) → IsTakenBy m (batch_of tx b.changes) → is_some (with_changes m.files.files b.changes) ≡ true
batch-taken m tx b batch taken =
    let is = batch.3 in
    ap (λ (cs : List FileChange). is_some (with_changes m.files.files cs)) is
    ∙ files-taken m (changed.Batch tx (batch.1 ∷ batch.2)) [] (subst (λ (cs : List FileChange). IsTakenBy m (batch_of tx cs)) is taken)

pub is-batch : (tx : ℕ) (cs : List FileChange) (b : Batch) → b ≡ record { tx = tx; changes = cs } → 1 ≤ length cs → IsBatchOf tx (Some b)
is-batch tx [] b is some = absurd (omega (arith, some))
is-batch tx (c ∷ cs) b is some = (ap (λ (x : Batch). x.tx) is, c, cs, ap (λ (x : Batch). x.changes) is)

-- a branch that has no mark may get one
pub may-commit : (m : Managed) (tx : ℕ) (moved : Moved) (phase : BranchPhase) → IsDoubtful m tx moved phase → committed_record tx phase ≡ marks_if true tx
    → is_some (links_step m.links.links (links_records.Committed tx)) ≡ true
may-commit m tx moved phases.Prepared d e = ap (λ (o : Option Branch). is_some (moves_on phases.Prepared phases.Committed m.links.links tx o)) d.is
may-commit m tx moved phases.Committed d e = absurd cc
may-commit m tx moved phases.Done d e = absurd cc
may-commit m tx moved phases.Aborted d e = absurd cc

pub on-ok : {T E P Q : Type 0} (r : Result T E) → OnOk r P → (P → Q) → OnOk r Q
on-ok (Ok x) p f = f p
on-ok (Err e) p f = p
