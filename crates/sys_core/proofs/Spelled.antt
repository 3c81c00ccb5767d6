-- THE RECORDS OF STEPS HAVE SPELLINGS.
use Rattle.std.proofs.Common.{◌≡◌, ℕ, ◌+◌, ◌<◌, ◌^◌, List, [], ◌∷◌, ◌++◌, length, Bool, true, false, not, Option, Some, None, Result, Err, sym, ◌∙◌, ap, subst}
use Rattle.db_changes.specs.Made.{Making, record_of}
use Rattle.dl_base.specs.declared.answer.Answer.{Answer}
use Rattle.dl_base.specs.declared.answer.Answer.TheVariants as answers
use Rattle.dl_base.specs.declared.answer.FileRefusal.{FileRefusal}
use Rattle.dl_base.specs.declared.answer.Refusal.{Refusal}
use Rattle.dl_base.specs.declared.answer.Refusal.TheVariants as reasons
use Rattle.dl_base.specs.declared.file.FileChange.{FileChange}
use Rattle.dl_base.specs.declared.file.FileCmd.{FileCmd}
use Rattle.dl_base.specs.declared.step.Phase.TheVariants as phases
use Rattle.dl_base.specs.declared.step.Step.TheVariants as steps
use Rattle.dl_codec.specs.Files.{files_record}
use Rattle.dl_codec.specs.Layout.{u64}
use Rattle.dl_codec.specs.Links.{links_record}
use Rattle.dl_codec.specs.Rows.{rows_record}
use Rattle.dl_codec.specs.declared.files.FilesRecord.TheVariants as files_records
use Rattle.dl_codec.specs.declared.links.BranchPhase.TheVariants as branch_phases
use Rattle.dl_codec.specs.declared.links.LinksRecord.TheVariants as links_records
use Rattle.dl_codec.specs.declared.rows.RowsRecord.TheVariants as rows_records
use Rattle.fm_links.specs.Claims.{moved}
use Rattle.fm_manager.proofs.Parts.{finish-parts}
use Rattle.fm_manager.proofs.Spelled.{spelled-both}
use Rattle.fm_manager.specs.Managed.{AreSpelled, IsSpelled, Managed, as_writes, kept_in}
use Rattle.fm_manager.specs.Pieces.{CanFinish, IsDoubtful, Pieces, copies_written, manager_part, settling_part}
use Rattle.meaning_areas.specs.Commits.{Commit}
use Rattle.meaning_areas.specs.Finishing.{batch_of, committed_record, finish_records}
use Rattle.meaning_areas.specs.Lists.{Written, in_files, in_links, in_rows}
use Rattle.meaning_files.specs.Commands.{command_changes}
use Rattle.meaning_merge.specs.Merging.{commit_changes}
use Rattle.meaning_settling.specs.Settling.{Moved}
use Rattle.meaning_system.specs.Commands.{command_refusal}
use Rattle.meaning_system.specs.Machine.{next_commit, step}
use Rattle.meaning_system.specs.State.{State, Txn, has_links, moved_of}
use Rattle.dl_base.specs.Answers.{is_refused}
use Rattle.meaning_system.specs.Writes.{file_writes, prepared, when, writes}
use Rattle.sys_core.proofs.Commanding.{stepped}
use Rattle.sys_core.proofs.Deciding.{commit-writes, conflict-writes}
use Rattle.sys_core.proofs.RollingBack.{aborts}
use Rattle.sys_core.proofs.Seating.{seat-moved}
use Rattle.sys_core.specs.Between.{DecidesTo, IsBetween}
use Rattle.sys_core.specs.Seated.{IsSeatOf, making_of}
use Rattle.sys_core.specs.declared.engine.Engine.{Engine}
use Rattle.sys_owners.proofs.Taking.{finish-last}
use Rattle.sys_records.proofs.Spelled.{as-spelled}
use Rattle.sys_seats.specs.declared.seat.Seat.{Seat}

-- a step that writes nothing
pub nothing-spelled : (xs : List Written) → as_writes xs ≡ [] → AreSpelled xs
nothing-spelled [] none = tt
nothing-spelled (x ∷ xs) none = absurd cc

-- errors that are the same, of whatever result
pub err-as : {T U E : Type 0} (f e : E) → ◌≡◌ {A = Result T E} (Err f) (Err e) → ◌≡◌ {A = Result U E} (Err f) (Err e)
err-as {T} {U} {E} f e is = ap (λ (g : E). Err g) same
  where
    same : f ≡ e
    same = cc

-- THE ABORTED of a transaction, where it has a branch: its number is one of 64 bits
pub aborts-spelled : (tx : ℕ) → tx < 2 ^ 64 → (branch : Bool) → AreSpelled (aborts branch tx)
unfolding links_record u64
aborts-spelled tx small true = (small, tt)
aborts-spelled tx small false = tt

-- THE PREPARED of a transaction, by what its seat has
pub seat-spelled : (s : State) (tx : ℕ) (t : Txn) (x : Seat) → IsSeatOf s tx t x → AreSpelled (prepared tx (moved x.claim.gives x.claim.takes)) → AreSpelled (prepared tx (moved_of t))
seat-spelled s tx t x is spelled = subst (λ (m : Moved). AreSpelled (prepared tx m)) (seat-moved s tx t x is) spelled

-- A DECISION
module _ (first : ℕ) (w : Engine) (s : State) (session tx : ℕ) (t : Txn) (pieces : Option Pieces) (b : IsBetween first w s session tx t phases.Prepared pieces) where
  pub conflict-spelled : (why : Refusal) → DecidesTo s t (Some why) → (branch : Bool) → branch ≡ has_links (moved_of t) → AreSpelled (aborts branch tx) → AreSpelled (writes s (steps.Decide session))
  conflict-spelled why to branch is spelled =
      as-spelled (writes s (steps.Decide session)) (aborts branch tx) (conflict-writes s session tx t b.is b.in_phase why to ∙ ap (λ (c : Bool). aborts c tx) (sym is)) spelled

  pub commit-spelled : DecidesTo s t None → (made : Making) → made ≡ making_of tx t → rows_record.fits (record_of made (length w.owners.store.rows.commits + 1)) → AreSpelled (writes s (steps.Decide session))
  commit-spelled to made own fits =
      let number : length w.owners.store.rows.commits + 1 ≡ next_commit s = ap (λ (cs : List Commit). length cs + 1) b.sound.follows.joint.commits in
      as-spelled (writes s (steps.Decide session)) (in_rows (rows_records.Commit tx (next_commit s) (has_links (moved_of t)) (commit_changes t.base t.copy)) ∷ []) (commit-writes s session tx t b.is b.in_phase to)
      (subst (λ (n : ℕ). rows_record.fits (record_of (making_of tx t) n)) number (subst (λ (m : Making). rows_record.fits (record_of m (length w.owners.store.rows.commits + 1))) own fits), tt)

-- A FINISH: its pieces, the marks of its branch, and that this has ended

rest-spelled : (xs ys : List Written) → AreSpelled (xs ++ ys) → AreSpelled ys
rest-spelled [] ys spelled = spelled
rest-spelled (x ∷ xs) ys spelled = rest-spelled xs ys spelled.1

-- the marks have the number of the Done

mark-spelled : (tx : ℕ) → IsSpelled (in_links (links_records.Done tx)) → AreSpelled (committed_record tx branch_phases.Prepared)
unfolding links_record
mark-spelled tx done = (done, tt)

end-spelled : (tx : ℕ) → IsSpelled (in_links (links_records.Done tx)) → IsSpelled (in_rows (rows_records.Ended tx))
unfolding links_record rows_record
end-spelled tx done = done

pub finish-spelled : (m : Managed) (q : Pieces) (gone : Moved) → CanFinish m q → IsDoubtful m q.tx gone branch_phases.Prepared → AreSpelled (settling_part q.tx q.copies q.changes) → AreSpelled (finish_records q.tx branch_phases.Prepared gone (kept_in m))
finish-spelled m q gone can doubt spelled =
    let last : List Written = in_links (links_records.Done q.tx) ∷ [] in
    let end : List Written = in_rows (rows_records.Ended q.tx) ∷ [] in
    let part : List Written = manager_part q.tx branch_phases.Prepared gone (kept_in m) in
    let mark : List Written = committed_record q.tx branch_phases.Prepared in
    let settling : List Written = settling_part q.tx q.copies q.changes in
    let done : IsSpelled (in_links (links_records.Done q.tx)) = (rest-spelled (batch_of q.tx q.changes) last (rest-spelled (copies_written q.copies) (batch_of q.tx q.changes ++ last) spelled)).0 in
    as-spelled (finish_records q.tx branch_phases.Prepared gone (kept_in m)) (part ++ end) (finish-last q.tx branch_phases.Prepared gone (kept_in m))
    (spelled-both part end (as-spelled part (mark ++ settling) (finish-parts m q can gone branch_phases.Prepared doubt) (spelled-both mark settling (mark-spelled q.tx done) spelled)) (end-spelled q.tx done, tt))

-- A COMMAND

file-spelled : (s : State) (cmd : FileCmd) (answer : Answer) (cs : List FileChange) → files_record.fits (files_records.Batch 0 cs) → AreSpelled (file_writes s cmd answer cs)
file-spelled s cmd answer [] fits = tt
file-spelled s cmd answer (c ∷ cs) fits = by (not (is_refused answer))
  where
    by : (b : Bool) → AreSpelled (when b (in_files (files_records.Batch 0 (c ∷ cs)) ∷ []))
    by true = (fits, tt)
    by false = tt

refused-none : (s : State) (cmd : FileCmd) (why : FileRefusal) (cs : List FileChange) → AreSpelled (file_writes s cmd (answers.Refused (reasons.File why)) cs)
refused-none s cmd why [] = tt
refused-none s cmd why (c ∷ cs) = tt

module _ (s : State) (cmd : FileCmd) where
  -- it is refused
  pub refused-spelled : (why : FileRefusal) → command_refusal s cmd.user cmd.what ≡ Some why → AreSpelled (writes s (steps.File cmd))
  unfolding writes
  refused-spelled why is =
      subst (λ (r : Answer × State). AreSpelled (file_writes s cmd r.0 (command_changes s.files cmd.user cmd.what))) (sym (stepped s cmd (Some why) is)) (refused-none s cmd why (command_changes s.files cmd.user cmd.what))

  -- it reads
  pub read-spelled : command_changes s.files cmd.user cmd.what ≡ [] → AreSpelled (writes s (steps.File cmd))
  unfolding writes
  read-spelled none = subst (λ (cs : List FileChange). AreSpelled (file_writes s cmd (step s (steps.File cmd)).0 cs)) (sym none) tt

  -- it writes
  pub command-spelled : (cs : List FileChange) → cs ≡ command_changes s.files cmd.user cmd.what → files_record.fits (files_records.Batch 0 cs) → AreSpelled (writes s (steps.File cmd))
  unfolding writes
  command-spelled cs are fits =
      file-spelled s cmd (step s (steps.File cmd)).0 (command_changes s.files cmd.user cmd.what) (subst (λ (xs : List FileChange). files_record.fits (files_records.Batch 0 xs)) are fits)
