-- HOW MANY RECORDS A STEP WRITES: one at most, but for a Finish, a restore and Resolve. Only a restore has some behind its commit.
use Rattle.std.proofs.Common.{◌≡◌, ℕ, List, [], ◌∷◌, ◌++◌, map, not, Bool, true, false, cond, Option, Some, None, refl, sym, ◌∙◌, ap}
use Rattle.std.specs.FinMap as maps
use Rattle.std.specs.List.{find}
use Rattle.dl_base.specs.declared.answer.Answer.{Answer}
use Rattle.dl_base.specs.declared.answer.Answer.TheVariants as answers
use Rattle.dl_base.specs.declared.file.File.{File}
use Rattle.dl_base.specs.declared.file.FileChange.{FileChange}
use Rattle.dl_base.specs.declared.file.FileCmd.{FileCmd}
use Rattle.dl_base.specs.declared.step.Phase.{Phase}
use Rattle.dl_base.specs.declared.step.Phase.TheVariants as phases
use Rattle.dl_base.specs.declared.step.Step.{Step}
use Rattle.dl_base.specs.declared.step.Step.TheVariants as steps
use Rattle.dl_base.specs.declared.step.Target.{Target}
use Rattle.dl_base.specs.declared.value.LinkRow.{LinkRow}
use Rattle.dl_codec.specs.declared.files.FilesRecord.TheVariants as files_records
use Rattle.dl_codec.specs.declared.links.BranchPhase.TheVariants as branch_phases
use Rattle.dl_codec.specs.declared.links.LinksRecord.TheVariants as links_records
use Rattle.meaning_areas.specs.Commits.{Commit}
use Rattle.meaning_areas.specs.Finishing.{finish_records}
use Rattle.meaning_areas.specs.Lists.{Written, in_files, in_links}
use Rattle.meaning_opening.proofs.Plain.{false_true}
use Rattle.meaning_files.specs.Commands.{command_changes}
use Rattle.meaning_settling.specs.Keyed.{is_at}
use Rattle.meaning_settling.specs.Settling.{Kept, Moved, link_key}
use Rattle.meaning_system.specs.Machine.{finish_left, is_left_in, pending, step}
use Rattle.meaning_system.specs.State.{State, Txn, has_links, is_decided, is_prepared, kept_in, moved_of, txn_of}
use Rattle.dl_base.specs.Answers.{is_refused}
use Rattle.meaning_system.specs.Writes.{aborted, archive_list, backup_writes, copy_list, decide_writes, drop_writes, file_writes, left_writes, prepared, session_writes, settle_writes, taken_by, txn_writes, when, whole_finish, writes}
use Rattle.sys_recovery.specs.Left.{has_commit}
use Rattle.sys_recovery.proofs.Holding.{IsOne, finish-none, no-front, none-less, none-more}

-- at most one record
when-one : (b : Bool) (xs : List Written) → IsOne xs → IsOne (when b xs)
when-one true xs one = one
when-one false xs one = tt

aborted-one : (tx : ℕ) (m : Moved) → IsOne (aborted tx m)
aborted-one tx m = when-one (has_links m) (in_links (links_records.Aborted tx) ∷ []) tt

prepared-one : (tx : ℕ) (m : Moved) → IsOne (prepared tx m)
prepared-one tx m = when-one (has_links m) (in_links (links_records.Prepared tx m.gives (map (taken_by m.fill) m.takes)) ∷ []) tt

decide-one : (s : State) (tx : ℕ) (t : Txn) (answer : Answer) → IsOne (decide_writes s tx t answer)
decide-one s tx t (answers.Committed c) = tt
decide-one s tx t (answers.Refused why) = aborted-one tx (moved_of t)
decide-one s tx t _ = tt

file-one : (s : State) (cmd : FileCmd) (answer : Answer) (made : List FileChange) → IsOne (file_writes s cmd answer made)
file-one s cmd answer [] = tt
file-one s cmd answer (c ∷ cs) = when-one (not (is_refused answer)) (in_files (files_records.Batch 0 (c ∷ cs)) ∷ []) tt

copy-one : (l : LinkRow) (o : Option File) → IsOne (copy_list l o)
copy-one l None = tt
copy-one l (Some f) = tt

archive-one : (s : State) (o : Option LinkRow) → IsOne (archive_list s o)
archive-one s None = tt
archive-one s (Some l) = copy-one l (maps.get s.files l.path)

backup-one : (s : State) (answer : Answer) → IsOne (backup_writes s answer)
backup-one s (answers.BackedUp n) = tt
backup-one s _ = tt

module _ (s : State) (n : ℕ) (answer : Answer) where
  prepare-one : (o : Option (ℕ × Txn)) → IsOne (session_writes s (steps.Prepare n) answer o)
  prepare-one None = tt
  prepare-one (Some e) = by e.1.phase
    where
      by : (p : Phase) → IsOne (txn_writes s (steps.Prepare n) e.0 e.1 p answer)
      by phases.Active = when-one (not (is_refused answer)) (prepared e.0 (moved_of e.1)) (prepared-one e.0 (moved_of e.1))
      by _ = tt

  decides-one : (o : Option (ℕ × Txn)) → IsOne (session_writes s (steps.Decide n) answer o)
  decides-one None = tt
  decides-one (Some e) = by e.1.phase
    where
      by : (p : Phase) → IsOne (txn_writes s (steps.Decide n) e.0 e.1 p answer)
      by phases.Prepared = decide-one s e.0 e.1 answer
      by _ = tt

  rollback-one : (o : Option (ℕ × Txn)) → IsOne (session_writes s (steps.Rollback n) answer o)
  rollback-one None = tt
  rollback-one (Some e) = by e.1.phase
    where
      by : (p : Phase) → IsOne (txn_writes s (steps.Rollback n) e.0 e.1 p answer)
      by phases.Prepared = aborted-one e.0 (moved_of e.1)
      by _ = tt

pub data Shape (s : State) (x : Step) : Type 0 where
  single : IsOne (writes s x) → Shape s x
  finishing : (n : ℕ) → x ≡ steps.Finish n → Shape s x
  restoring : (t : Target) → x ≡ steps.Restore t → Shape s x
  resolving : x ≡ steps.Resolve → Shape s x

pub shape : (s : State) (x : Step) → Shape s x
unfolding writes
shape s (steps.File cmd) = single (file-one s cmd (step s (steps.File cmd)).0 (command_changes s.files cmd.user cmd.what))
shape s (steps.Archive n) =
    let wanted : Option LinkRow = find (λ l. is_at (link_key n) (link_key l.link)) (pending s) in
    single (when-one (not (is_refused (step s (steps.Archive n)).0)) (archive_list s wanted) (archive-one s wanted))
shape s steps.Backup = single (backup-one s (step s steps.Backup).0)
shape s (steps.Restore t) = restoring t refl
shape s (steps.Tick n) = single tt
shape s steps.CrashManager = single tt
shape s steps.CrashDatabase = single tt
shape s steps.Resolve = resolving refl
shape s (steps.Begin n) = single tt
shape s (steps.Statement n stmt) = single tt
shape s (steps.Prepare n) = single (prepare-one s n (step s (steps.Prepare n)).0 (txn_of s n))
shape s (steps.Decide n) = single (decides-one s n (step s (steps.Decide n)).0 (txn_of s n))
shape s (steps.Finish n) = finishing n refl
shape s (steps.Rollback n) = single (rollback-one s n (step s (steps.Rollback n)).0 (txn_of s n))

-- A FINISH AND RESOLVE write no commit
whole-none : (tx : ℕ) (m : Moved) (k : Kept) → has_commit (whole_finish tx m k) ≡ false
whole-none tx m k = by (has_links m)
  where
    by : (b : Bool) → has_commit (when b (finish_records tx branch_phases.Prepared m k)) ≡ false
    by true = finish-none tx m k
    by false = refl

session-none : (s : State) (n : ℕ) (answer : Answer) (o : Option (ℕ × Txn)) → has_commit (session_writes s (steps.Finish n) answer o) ≡ false
session-none s n answer None = refl
session-none s n answer (Some e) = by e.1.phase
  where
    by : (p : Phase) → has_commit (txn_writes s (steps.Finish n) e.0 e.1 p answer) ≡ false
    by phases.Decided = whole-none e.0 (moved_of e.1) (kept_in s)
    by _ = refl

left-none : (s : State) (tx : ℕ) (o : Option Txn) → has_commit (left_writes s tx o) ≡ false
left-none s tx None = refl
left-none s tx (Some t) = by (is_left_in s is_decided (tx, t))
  where
    by : (b : Bool) → has_commit (cond b (whole_finish tx (moved_of t) (kept_in s)) []) ≡ false
    by true = whole-none tx (moved_of t) (kept_in s)
    by false = refl

settles-none : (cs : List Commit) (s : State) → has_commit (settle_writes s cs) ≡ false
settles-none [] s = refl
settles-none (c ∷ cs) s =
    let o : Option Txn = maps.get s.txs c.tx in
    none-more (left_writes s c.tx o) (settle_writes (finish_left s c.tx o) cs) (left-none s c.tx o) (settles-none cs (finish_left s c.tx o))

drops-none : (s : State) (es : List (ℕ × Txn)) → has_commit (drop_writes s es) ≡ false
drops-none s [] = refl
drops-none s (e ∷ es) = none-more (cond (is_left_in s is_prepared e) (aborted e.0 (moved_of e.1)) []) (drop_writes s es) (by (is_left_in s is_prepared e) (has_links (moved_of e.1))) (drops-none s es)
  where
    by : (b links : Bool) → has_commit (cond b (when links (in_links (links_records.Aborted e.0) ∷ [])) []) ≡ false
    by true true = refl
    by true false = refl
    by false links = refl

resolve-none : (s : State) → has_commit (writes s steps.Resolve) ≡ false
unfolding writes
resolve-none s = none-more (settle_writes s s.commits) (drop_writes s (maps.entries s.txs)) (settles-none s.commits s) (drops-none s (maps.entries s.txs))

-- ONLY A RESTORE has records behind its commit
pub commits-last : (s : State) (x : Step) (front rest : List Written) (w : Written) → front ++ w ∷ rest ≡ writes s x → has_commit front ≡ true → (t : Target) × (x ≡ steps.Restore t)
unfolding writes
commits-last s x front rest w is has = by (shape s x)
  where
    none : has_commit (writes s x) ≡ false → (t : Target) × (x ≡ steps.Restore t)
    none e = absurd (false_true (sym (none-less front (w ∷ rest) (ap has_commit is ∙ e)) ∙ has))

    by : Shape s x → (t : Target) × (x ≡ steps.Restore t)
    by (restoring t e) = (t, e)
    by (single one) = absurd (false_true (ap has_commit (no-front front rest w (writes s x) one is) ∙ has))
    by (finishing n e) = none (ap (λ (y : Step). has_commit (writes s y)) e ∙ session-none s n (step s (steps.Finish n)).0 (txn_of s n))
    by (resolving e) = none (ap (λ (y : Step). has_commit (writes s y)) e ∙ resolve-none s)
