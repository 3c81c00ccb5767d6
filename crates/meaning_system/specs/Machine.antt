-- THE ONE MACHINE.
use Rattle.std.specs.Prelude.{ℕ, zero, suc, ◌+◌, ◌-◌, ◌^◌, ◌&&◌, Bool, false, not, min, if◌then◌else◌, List, [], ◌∷◌, ◌++◌, length, filter, slice_get, is_none, Option, Some, None}
use Rattle.std.specs.FinMap as maps
use Rattle.std.specs.List.{find, flat_map, list_any}
use Rattle.dl_base.specs.declared.answer.Answer.{Answer}
use Rattle.dl_base.specs.declared.answer.Answer.TheVariants as answers
use Rattle.dl_base.specs.declared.answer.FileRefusal.{FileRefusal}
use Rattle.dl_base.specs.declared.answer.Refusal.{Refusal}
use Rattle.dl_base.specs.declared.answer.Refusal.TheVariants as reasons
use Rattle.dl_base.specs.declared.answer.RestoreRefusal.TheVariants as restores
use Rattle.dl_base.specs.declared.file.File.{File}
use Rattle.dl_base.specs.declared.file.FileCmd.{FileCmd}
use Rattle.dl_base.specs.declared.step.Phase.{Phase}
use Rattle.dl_base.specs.declared.step.Phase.TheVariants as phases
use Rattle.dl_base.specs.declared.step.Settings.{Settings}
use Rattle.dl_base.specs.declared.step.Step.{Step}
use Rattle.dl_base.specs.declared.step.Step.TheVariants as steps
use Rattle.dl_base.specs.declared.step.Target.{Target}
use Rattle.dl_base.specs.declared.step.Target.TheVariants as targets
use Rattle.dl_base.specs.declared.value.LinkNo.{LinkNo}
use Rattle.dl_base.specs.declared.value.LinkRow.{LinkRow}
use Rattle.meaning_areas.specs.Commits.{Commit, commit_to}
use Rattle.meaning_areas.specs.Copies.{Backup}
use Rattle.meaning_areas.specs.Stands.{Stored, past}
use Rattle.meaning_files.specs.Commands.{command_answer, changed}
use Rattle.meaning_settling.specs.Keyed.{is_at}
use Rattle.meaning_settling.specs.Settling.{Moved, link_key, copy_of, settle_one}
use Rattle.meaning_tables.specs.Links.{links, gives, takes}
use Rattle.meaning_tables.specs.Tables.{Tables}
use Rattle.meaning_system.specs.Claims.{statement, prepare_refusal, conflict}
use Rattle.meaning_system.specs.Commands.{command_refusal}
use Rattle.meaning_merge.specs.Merging.{merge}
use Rattle.meaning_merge.specs.Restoring.{is_lost, without_lost, lost_cells, in_the_way, restored_tables}
use Rattle.meaning_areas.specs.Same.{same_tables}
use Rattle.meaning_system.specs.State.{Txn, State, tables_of, number_of, moved_of, has_links, is_active, is_prepared, is_decided, with_txn, without_txn, ended, txn_of, is_left, kept_in, with_kept}

abbrev pub refused : State → Refusal → Answer × State
refused s why = (answers.Refused why, s)

-- Begin

abbrev pub new_txn : Tables → Txn
new_txn tables = record { base = tables; copy = tables; named = []; next = 1; seen = None; phase = phases.Active }

abbrev pub drawing : State → State
drawing s = record s { drawn = s.drawn + 1 }

abbrev pub begun : State → ℕ → Answer × State
begun s session =
    let tx = number_of (drawing s) in
    (answers.Begun tx, record (with_txn (drawing s) tx (new_txn (tables_of s))) { sessions = maps.insert s.sessions session tx })

abbrev pub begin : State → ℕ → Option (ℕ × Txn) → Answer × State
begin s session (Some e) = refused s (reasons.InTransaction e.0)
begin s session None = begun s session

-- steps on the transaction of a session

abbrev pub with_phase : Txn → Phase → Txn
with_phase t p = record t { phase = p }

abbrev pub stated : State → ℕ → Answer × Txn → Answer × State
stated s tx e = (e.0, with_txn s tx e.1)

abbrev pub voted : State → ℕ → Txn → Option Refusal → Answer × State
voted s tx t (Some why) = refused s why
voted s tx t None = (answers.Done, with_txn s tx (with_phase t phases.Prepared))

abbrev pub next_commit : State → ℕ
next_commit s = length s.commits + 1

abbrev pub merged_by : State → Txn → Tables
merged_by s t = merge (tables_of s) t.base t.copy (next_commit s)

abbrev pub commit_by : State → ℕ → Txn → Commit
commit_by s tx t = commit_to s.commits tx (has_links (moved_of t)) (merged_by s t)

abbrev pub committed : State → ℕ → Txn → State
committed s tx t = record s { commits = s.commits ++ commit_by s tx t ∷ []; txs = maps.insert s.txs tx (with_phase t phases.Decided) }

abbrev pub by_conflict : State → ℕ → ℕ → Txn → Option Refusal → Answer × State
by_conflict s session tx t (Some why) = (answers.Refused why, ended s session tx)
by_conflict s session tx t None = (answers.Committed (next_commit s), committed s tx t)

abbrev pub decide : State → ℕ → ℕ → Txn → Answer × State
decide s session tx t = if same_tables t.base t.copy then (answers.Done, ended s session tx) else by_conflict s session tx t (conflict t.base (tables_of s) t.named)

-- files, copies and links after a decided transaction is settled
abbrev pub settled_by : State → Txn → State
settled_by s t = with_kept s (settle_one (moved_of t) (kept_in s))

abbrev pub on_txn : State → Step → ℕ → Txn → Phase → Answer × State
on_txn s (steps.Statement session stmt) tx t phases.Active = stated s tx (statement s tx t stmt)
on_txn s (steps.Prepare session) tx t phases.Active = voted s tx t (prepare_refusal s t)
on_txn s (steps.Decide session) tx t phases.Prepared = decide s session tx t
on_txn s (steps.Finish session) tx t phases.Decided = (answers.Done, ended (settled_by s t) session tx)
on_txn s (steps.Rollback session) tx t phases.Active = (answers.Done, ended s session tx)
on_txn s (steps.Rollback session) tx t phases.Prepared = (answers.Done, ended s session tx)
on_txn s asked tx t phase = refused s (reasons.WrongPhase phase)

abbrev pub on_session : State → Step → Option (ℕ × Txn) → Answer × State
on_session s asked None = refused s reasons.NoTransaction
on_session s asked (Some e) = on_txn s asked e.0 e.1 e.1.phase

-- file commands: their record has their changes, and these are their effect

abbrev pub by_refusal : State → FileCmd → Option FileRefusal → Answer × State
by_refusal s cmd (Some why) = refused s (reasons.File why)
by_refusal s cmd None = (command_answer s.files cmd.what, record s { files = changed s.files cmd })

-- archive

abbrev pub decided_takes : ℕ × Txn → List LinkRow
decided_takes e = if is_decided e.1.phase then (moved_of e.1).takes else []

abbrev pub has_link : LinkNo → List LinkRow → Bool
has_link n ls = list_any (λ l. is_at (link_key n) (link_key l.link)) ls

abbrev pub pending : State → List LinkRow
pending s = filter (λ l. l.options.recovery && is_none (maps.get s.copies (link_key l.link)) && not (has_link l.link (flat_map decided_takes (maps.entries s.txs)))) (links (tables_of s))

abbrev pub with_copy : State → LinkNo → File → State
with_copy s n f = record s { copies = maps.insert s.copies (link_key n) (copy_of f) }

abbrev pub archive_file : State → LinkNo → Option File → Answer × State
archive_file s n None = refused s (reasons.NotPending n)
archive_file s n (Some f) = (answers.Archived 1, with_copy s n f)

abbrev pub archive_on : State → LinkNo → Option LinkRow → Answer × State
archive_on s n None = refused s (reasons.NotPending n)
archive_on s n (Some l) = archive_file s n (maps.get s.files l.path)

abbrev pub archive : State → LinkNo → Answer × State
archive s n = archive_on s n (find (λ l. is_at (link_key n) (link_key l.link)) (pending s))

-- backup

abbrev pub is_unfinished : ℕ × Txn → Bool
is_unfinished e = not (is_active e.1.phase)

-- the least number of a prepared or decided transaction
abbrev pub unfinished : State → Option (ℕ × Txn)
unfinished s = find is_unfinished (maps.entries s.txs)

abbrev pub back_up_at : State → List LinkRow → Answer × State
back_up_at s (l ∷ ls) = refused s (reasons.ArchivePending l.link)
back_up_at s [] = (answers.BackedUp (length s.backups + 1), record s { backups = s.backups ++ record { commit = length s.commits; tables = tables_of s } ∷ [] })

abbrev pub back_up : State → Option (ℕ × Txn) → Answer × State
back_up s (Some e) = refused s (reasons.Unfinished e.0)
back_up s None = back_up_at s (pending s)

-- restore

-- the first session that has a transaction
abbrev pub first_key : List (ℕ × ℕ) → Option ℕ
first_key [] = None
first_key (e ∷ es) = Some e.0

abbrev pub first_session : State → Option ℕ
first_session s = first_key (maps.entries s.sessions)

abbrev pub tables_in : Option Backup → Option Tables
tables_in None = None
tables_in (Some b) = Some b.tables

abbrev pub backup_at : State → ℕ → Option Tables
backup_at s zero = None
backup_at s (suc n) = tables_in (slice_get s.backups n)

abbrev pub target_tables : State → Target → Option Tables
target_tables s (targets.Backup n) = backup_at s n
target_tables s (targets.Commit n) = past [] s.commits n

abbrev pub target_number : Target → ℕ
target_number (targets.Backup n) = n
target_number (targets.Commit n) = n

-- the links that a restore to these tables gives and takes, all takes with RECOVERY YES to be filled
abbrev pub restore_moved : State → Tables → Moved
restore_moved s later = record { gives = gives (tables_of s) later; takes = takes (tables_of s) later; fill = list_any (λ t. t.options.recovery) (takes (tables_of s) later) }

abbrev pub lost_to : State → Tables → LinkRow → Bool
lost_to s target l = is_lost s.files (takes (tables_of s) target) l

-- the tables of a restore: the target without its lost cells, merged into the committed ones
abbrev pub restore_to : State → Tables → Tables
restore_to s target = restored_tables (tables_of s) (without_lost (lost_to s target) target) (next_commit s)

abbrev pub restored_state : State → Tables → State
restored_state s later = with_kept (record (drawing s) { commits = s.commits ++ commit_to s.commits (number_of (drawing s)) (has_links (restore_moved s later)) later ∷ [] }) (settle_one (restore_moved s later) (kept_in s))

abbrev pub restore_at : State → Tables → Option (List ℕ) → Answer × State
restore_at s target (Some path) = refused s (reasons.Restore (restores.InTheWay path))
restore_at s target None = (answers.Restored (next_commit s) (lost_cells (lost_to s target) target), restored_state s (restore_to s target))

abbrev pub restore_found : State → Target → Option Tables → Answer × State
restore_found s t None = refused s (reasons.Restore (restores.NoTarget (target_number t)))
restore_found s t (Some target) = restore_at s target (in_the_way s.files s.copies (gives (tables_of s) target) (filter (λ l. not (lost_to s target l)) (takes (tables_of s) target)))

abbrev pub restore_idle : State → Target → Option (ℕ × Txn) → Answer × State
restore_idle s t (Some e) = refused s (reasons.Unfinished e.0)
restore_idle s t None = restore_found s t (target_tables s t)

abbrev pub restore : State → Target → Option ℕ → Answer × State
restore s t (Some session) = refused s (reasons.SessionBusy session)
restore s t None = restore_idle s t (unfinished s)

-- crashes, and resolving

abbrev pub is_bound : Option Txn → Bool
is_bound None = false
is_bound (Some t) = not (is_active t.phase)

-- the database forgets its sessions and their active transactions; prepared and decided ones stand without a session
abbrev pub crash_database : State → State
crash_database s = record s { rows_opening = s.rows_opening + 1; drawn = 0; txs = maps.retain_keys s.txs (λ tx. is_bound (maps.get s.txs tx)); sessions = maps.empty }

-- the manager forgets the claims of active transactions: each that has claimed is doomed
abbrev pub crash_manager : State → State
crash_manager s = record s { links_opening = s.links_opening + 1 }

-- those that no session has: decided ones are finished in order of decision, then prepared ones are dropped
abbrev pub is_left_in : State → (Phase → Bool) → ℕ × Txn → Bool
is_left_in s test e = is_left s e.0 && test e.1.phase

abbrev pub finish_left : State → ℕ → Option Txn → State
finish_left s tx None = s
finish_left s tx (Some t) = if is_left_in s is_decided (tx, t) then without_txn (settled_by s t) tx else s

abbrev pub finish_all : State → List Commit → State
finish_all s [] = s
finish_all s (c ∷ cs) = finish_all (finish_left s c.tx (maps.get s.txs c.tx)) cs

abbrev pub drop_left : State → ℕ → Option Txn → State
drop_left s tx None = s
drop_left s tx (Some t) = if is_left_in s is_prepared (tx, t) then without_txn s tx else s

abbrev pub drop_all : State → List ℕ → State
drop_all s [] = s
drop_all s (tx ∷ txs) = drop_all (drop_left s tx (maps.get s.txs tx)) txs

abbrev pub count_left : (Phase → Bool) → State → ℕ
count_left test s = length (filter (is_left_in s test) (maps.entries s.txs))

abbrev pub resolve : State → Answer × State
resolve s = (answers.Resolved (count_left is_decided s) (count_left is_prepared s), drop_all (finish_all s s.commits) (maps.keys s.txs))

-- THE STEP
unfoldable pub step : State → Step → Answer × State
step s (steps.Begin session) = begin s session (txn_of s session)
step s (steps.Statement session stmt) = on_session s (steps.Statement session stmt) (txn_of s session)
step s (steps.Prepare session) = on_session s (steps.Prepare session) (txn_of s session)
step s (steps.Decide session) = on_session s (steps.Decide session) (txn_of s session)
step s (steps.Finish session) = on_session s (steps.Finish session) (txn_of s session)
step s (steps.Rollback session) = on_session s (steps.Rollback session) (txn_of s session)
step s (steps.File cmd) = by_refusal s cmd (command_refusal s cmd.user cmd.what)
step s (steps.Archive n) = archive s n
step s steps.Backup = back_up s (unfinished s)
step s (steps.Restore t) = restore s t (first_session s)
step s (steps.Tick n) = (answers.Done, record s { moment = min (s.moment + n) (2 ^ 64 - 1) })
step s steps.CrashManager = (answers.Done, crash_manager s)
step s steps.CrashDatabase = (answers.Done, crash_database s)
step s steps.Resolve = resolve s

-- THE RUN of some steps, in order: the answers, and the state after them
abbrev pub run : State → List Step → List Answer × State
run s [] = ([], s)
run s (x ∷ xs) = let rest = run (step s x).1 xs in ((step s x).0 ∷ rest.0, rest.1)

-- THE START: the state with which a system begins over areas that stand for this
abbrev pub start : Settings → Stored → State
start given x = record {
  commits = x.commits;
  backups = x.backups;
  copies = x.copies;
  files = x.files;
  moment = given.now;
  settings = given;
  rows_opening = x.rows_opening + 1;
  links_opening = x.links_opening + 1;
  drawn = 0;
  txs = maps.empty;
  sessions = maps.empty;
}
