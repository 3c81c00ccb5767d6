-- What steps and openings write.
use Rattle.std.specs.Prelude.{ℕ, ◌+◌, ◌&&◌, Bool, true, false, not, if◌then◌else◌, List, [], ◌∷◌, ◌++◌, length, map, is_none, Option, Some, None}
use Rattle.meaning_examples.specs.Maps as maps
use Rattle.std.specs.List.{find, flat_map}
use Rattle.std.specs.Option.{unwrap_or}
use Rattle.dl_base.specs.Answers.{is_refused}
use Rattle.dl_base.specs.declared.answer.Answer.{Answer}
use Rattle.dl_base.specs.declared.answer.Answer.TheVariants as answers
use Rattle.dl_base.specs.declared.file.File.{File}
use Rattle.dl_base.specs.declared.file.FileChange.{FileChange}
use Rattle.dl_base.specs.declared.file.FileCmd.{FileCmd}
use Rattle.dl_base.specs.declared.step.Phase.{Phase}
use Rattle.dl_base.specs.declared.step.Phase.TheVariants as phases
use Rattle.dl_base.specs.declared.step.Step.{Step}
use Rattle.dl_base.specs.declared.step.Step.TheVariants as steps
use Rattle.dl_base.specs.declared.value.LinkNo.{LinkNo}
use Rattle.dl_base.specs.declared.value.LinkRow.{LinkRow}
use Rattle.dl_codec.specs.declared.files.FilesRecord.TheVariants as files_records
use Rattle.dl_codec.specs.declared.archive.ArchiveRecord.TheVariants as archive_records
use Rattle.dl_codec.specs.declared.backups.BackupRecord.TheVariants as backup_records
use Rattle.dl_codec.specs.declared.links.BranchPhase.TheVariants as branch_phases
use Rattle.dl_codec.specs.declared.links.LinksRecord.TheVariants as links_records
use Rattle.dl_codec.specs.declared.rows.RowsRecord.TheVariants as rows_records
use Rattle.dl_codec.specs.declared.backups.TableImage.{TableImage}
use Rattle.dl_codec.specs.declared.links.Taken.{Taken}
use Rattle.meaning_examples.specs.Branches.{Branch}
use Rattle.meaning_examples.specs.Commits.{Commit, commit_of}
use Rattle.meaning_examples.specs.Finishing.{file_copy, finish_records}
use Rattle.meaning_examples.specs.Lists.{Folds, Written, in_rows, in_links, in_files, in_archive, in_backups, folds_on}
use Rattle.meaning_examples.specs.Stands.{is_open, kept_of}
use Rattle.meaning_examples.specs.UserFiles.{command_changes}
use Rattle.meaning_examples.specs.Keyed.{is_at}
use Rattle.meaning_examples.specs.Settling.{Moved, Kept, link_key}
use Rattle.meaning_tables.specs.Tables.{Rows, Tables}
use Rattle.meaning_examples.specs.Machine.{step, next_commit, restore_moved, restore_to, target_tables, drawing, is_left_in, finish_left}
use Rattle.meaning_examples.specs.Merging.{commit_changes}
use Rattle.meaning_examples.specs.Restoring.{without_lost, restore_changes}
use Rattle.meaning_examples.specs.Machine as machine
use Rattle.meaning_examples.specs.State.{Txn, State, tables_of, number_of, moved_of, has_links, is_prepared, is_decided, txn_of, kept_in}

abbrev pub when : Bool → List Written → List Written
when true xs = xs
when false xs = []

-- the records of a Finish that has none yet
abbrev pub whole_finish : ℕ → Moved → Kept → List Written
whole_finish tx m k = when (has_links m) (finish_records tx branch_phases.Prepared m k)

abbrev pub aborted : ℕ → Moved → List Written
aborted tx m = when (has_links m) (in_links (links_records.Aborted tx) ∷ [])

abbrev pub taken_by : Bool → LinkRow → Taken
taken_by fill l = record { link = l; fill = fill && l.options.recovery }

abbrev pub prepared : ℕ → Moved → List Written
prepared tx m = when (has_links m) (in_links (links_records.Prepared tx m.gives (map (taken_by m.fill) m.takes)) ∷ [])

-- a step on the transaction of a session
abbrev pub decide_writes : State → ℕ → Txn → Answer → List Written
decide_writes s tx t (answers.Committed c) = in_rows (rows_records.Commit tx c (has_links (moved_of t)) (commit_changes t.base t.copy)) ∷ []
decide_writes s tx t (answers.Refused why) = aborted tx (moved_of t)
decide_writes s tx t _ = []

abbrev pub txn_writes : State → Step → ℕ → Txn → Phase → Answer → List Written
txn_writes s (steps.Prepare x) tx t phases.Active answer = when (not (is_refused answer)) (prepared tx (moved_of t))
txn_writes s (steps.Decide x) tx t phases.Prepared answer = decide_writes s tx t answer
txn_writes s (steps.Finish x) tx t phases.Decided answer = whole_finish tx (moved_of t) (kept_in s)
txn_writes s (steps.Rollback x) tx t phases.Prepared answer = aborted tx (moved_of t)
txn_writes s asked tx t phase answer = []

abbrev pub session_writes : State → Step → Answer → Option (ℕ × Txn) → List Written
session_writes s asked answer None = []
session_writes s asked answer (Some e) = txn_writes s asked e.0 e.1 e.1.phase answer

abbrev pub file_writes : State → FileCmd → Answer → List FileChange → List Written
file_writes s cmd answer [] = []
file_writes s cmd answer (c ∷ cs) = when (not (is_refused answer)) (in_files (files_records.Batch 0 (c ∷ cs)) ∷ [])

abbrev pub copy_list : LinkRow → Option File → List Written
copy_list l None = []
copy_list l (Some f) = in_archive (archive_records.Copy (file_copy l f)) ∷ []

abbrev pub archive_list : State → Option LinkRow → List Written
archive_list s None = []
archive_list s (Some l) = copy_list l (maps.get s.files l.path)

abbrev pub archive_writes : State → LinkNo → Answer → List Written
archive_writes s n answer = when (not (is_refused answer)) (archive_list s (find (λ l. is_at (link_key n) (link_key l.link)) (machine.pending s)))

abbrev pub image_of : List ℕ × Rows → TableImage
image_of t = record { name = t.0; version = t.1.version; columns = t.1.columns; next = t.1.next; rows = map (λ r. (r.0, r.1.values)) t.1.rows }

abbrev pub backup_writes : State → Answer → List Written
backup_writes s (answers.BackedUp n) = in_backups (backup_records.Backup n (length s.commits) (map image_of (tables_of s))) ∷ []
backup_writes s _ = []

abbrev pub restore_by : State → ℕ → Tables → Tables → List Written
restore_by s tx target later =
    prepared tx (restore_moved s later)
    ++ in_rows (rows_records.Commit tx (next_commit s) (has_links (restore_moved s later)) (restore_changes (tables_of s) target))
    ∷ whole_finish tx (restore_moved s later) (kept_in s)

abbrev pub restore_target : State → Option Tables → List Written
restore_target s None = []
restore_target s (Some target) = restore_by s (number_of (drawing s)) (without_lost (machine.lost_to s target) target) (restore_to s target)

abbrev pub restore_writes : State → Option Tables → Answer → List Written
restore_writes s target (answers.Restored c lost) = restore_target s target
restore_writes s target _ = []

-- Resolve: settled ones in order of decision, then dropped ones in order of their numbers
abbrev pub left_writes : State → ℕ → Option Txn → List Written
left_writes s tx None = []
left_writes s tx (Some t) = if is_left_in s is_decided (tx, t) then whole_finish tx (moved_of t) (kept_in s) else []

abbrev pub settle_writes : State → List Commit → List Written
settle_writes s [] = []
settle_writes s (c ∷ cs) = left_writes s c.tx (maps.get s.txs c.tx) ++ settle_writes (finish_left s c.tx (maps.get s.txs c.tx)) cs

abbrev pub drop_writes : State → List (ℕ × Txn) → List Written
drop_writes s es = flat_map (λ e. if is_left_in s is_prepared e then aborted e.0 (moved_of e.1) else []) es

-- THE RECORDS OF A STEP
unfoldable pub writes : State → Step → List Written
writes s (steps.File cmd) = file_writes s cmd (step s (steps.File cmd)).0 (command_changes s.files cmd.user cmd.what)
writes s (steps.Archive n) = archive_writes s n (step s (steps.Archive n)).0
writes s steps.Backup = backup_writes s (step s steps.Backup).0
writes s (steps.Restore t) = restore_writes s (target_tables s t) (step s (steps.Restore t)).0
writes s (steps.Tick n) = []
writes s steps.CrashManager = in_links (links_records.Opening (s.links_opening + 1)) ∷ []
writes s steps.CrashDatabase = in_rows (rows_records.Opening (s.rows_opening + 1)) ∷ []
writes s steps.Resolve = settle_writes s s.commits ++ drop_writes s (maps.entries s.txs)
writes s (steps.Begin session) = []
writes s (steps.Statement session stmt) = []
writes s (steps.Prepare session) = session_writes s (steps.Prepare session) (step s (steps.Prepare session)).0 (txn_of s session)
writes s (steps.Decide session) = session_writes s (steps.Decide session) (step s (steps.Decide session)).0 (txn_of s session)
writes s (steps.Finish session) = session_writes s (steps.Finish session) (step s (steps.Finish session)).0 (txn_of s session)
writes s (steps.Rollback session) = session_writes s (steps.Rollback session) (step s (steps.Rollback session)).0 (txn_of s session)

-- THE RECORDS OF AN OPENING over lists that stand for something
abbrev pub open_writes : Folds → ℕ → Option Branch → List Written
open_writes f tx None = []
open_writes f tx (Some b) = if is_open b.phase then finish_records tx b.phase b.moved (kept_of f) else []

abbrev pub after : Folds → List Written → Folds
after f xs = unwrap_or (folds_on (Some f) xs) f

abbrev pub open_settles : Folds → List Commit → List Written
open_settles f [] = []
open_settles f (c ∷ cs) =
    let xs = open_writes f c.tx (maps.get f.links.table c.tx) in
    xs ++ open_settles (after f xs) cs

abbrev pub open_drop : Folds → ℕ × Branch → List Written
open_drop f e = when (is_open e.1.phase && is_none (commit_of e.0 f.rows.commits)) (in_links (links_records.Aborted e.0) ∷ [])

abbrev pub opening : Folds → List Written
opening f =
    in_rows (rows_records.Opening (f.rows.opening + 1)) ∷ in_links (links_records.Opening (f.links.opening + 1)) ∷ []
    ++ open_settles f f.rows.commits ++ flat_map (open_drop f) (maps.entries f.links.table)
