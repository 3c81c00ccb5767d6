-- A FINISH THAT GOES ON: the records that it still has to write are a walk to the lists behind it.
use Rattle.std.proofs.Common.{◌≡◌, ◌≢◌, ⊎_elim, ℕ, List, [], ◌∷◌, ◌++◌, Bool, true, false, cond, Option, Some, None, is_some, refl, sym, ◌∙◌, ap, subst, append_assoc}
use Rattle.std.proofs.lemmas.Bool.{cases_eq}
use Rattle.std.specs.FinMap as maps
use Rattle.std.specs.Ordering.{nat_cmp}
use Rattle.dl_base.specs.declared.file.FileChange.{FileChange}
use Rattle.dl_codec.specs.declared.files.FilesRecord.TheVariants as files_records
use Rattle.dl_codec.specs.declared.links.BranchPhase.{BranchPhase}
use Rattle.dl_codec.specs.declared.links.BranchPhase.TheVariants as phases
use Rattle.dl_codec.specs.declared.links.LinksRecord.TheVariants as links_records
use Rattle.dl_codec.specs.declared.rows.RowsRecord.TheVariants as rows_records
use Rattle.meaning_areas.specs.Branches.{Branch, Branches, branch, done_on, links_step, moves_on}
use Rattle.meaning_areas.specs.Commits.{Commit, Commits, commit_of, has_number, rows_step, with_ended}
use Rattle.meaning_areas.specs.Core.{Core, Work, decided}
use Rattle.meaning_areas.specs.Finishing.{AreNumbered, after_copies, batch_changes, batch_of, by_missing, copy_records, finish_records, next_record}
use Rattle.meaning_areas.specs.Joint.{Agrees, AgreesAt, Joint}
use Rattle.meaning_areas.specs.Lists.{Folds, Written, folds_on, folds_step, in_files, in_links, in_rows, with_files, with_links, with_rows}
use Rattle.meaning_areas.specs.Moving.{Stays, core_finished, core_opened, opened, with_finish, with_kept, with_table}
use Rattle.meaning_areas.specs.Stands.{AreDrawn, Compares, IsBranch, IsStand, IsWhole, Stored, is_open, kept_of, open_branch, stored_of}
use Rattle.meaning_files.specs.Files.{Files, with_changes}
use Rattle.meaning_settling.specs.Apart.{IsReady}
use Rattle.meaning_settling.specs.Settling.{Copies, Kept, Moved, settle_one}
use Rattle.meaning_opening.proofs.Copying.{CopyIsTaken, NextStays, copies-walk, own-all}
use Rattle.meaning_opening.proofs.Plain.{false_true, get-here, get-there, insert-same, insert-twice, none_some, some_same, the_some}
use Rattle.meaning_opening.proofs.Settling.{CopiesAre, FilesAre, PartsSettle, no-batch, none-missing, same-batch}
use Rattle.meaning_opening.proofs.Walks.{Walk}

-- WHAT THE CRATES BELOW PROMISE

abbrev pub CommittedStays : Type 0
CommittedStays = (f : Folds) (s : Stored) (tx : ℕ) (m : Moved) → IsStand f s → is_some (commit_of tx f.rows.commits) ≡ true → maps.get f.links.table tx ≡ Some (branch m phases.Prepared)
    → (later : Folds) × Stays f later (in_links (links_records.Committed tx)) s

abbrev pub EndedStays : Type 0
EndedStays = (f : Folds) (s : Stored) (tx : ℕ) (m : Moved) (c : Commit) → IsStand f s → commit_of tx f.rows.commits ≡ Some c → c.branch ≡ true → maps.get f.links.table tx ≡ Some (branch m phases.Done) → has_number tx f.rows.ended ≡ false
    → (later : Folds) × Stays f later (in_rows (rows_records.Ended tx)) s

abbrev pub EndedIsTaken : Type 0
EndedIsTaken = (r : Commits) (tx : ℕ) (c : Commit) → commit_of tx r.commits ≡ Some c → c.branch ≡ true → has_number tx r.ended ≡ false → rows_step r (rows_records.Ended tx) ≡ Some (with_ended r tx)

abbrev pub FinishSettles : Type 0
FinishSettles = (f : Folds) (c : Core) (tx : ℕ) (w : Work) → Joint f c → c.works tx ≡ Some w → w.stage ≡ decided → w.branch ≡ true → maps.get f.links.table tx ≡ Some (branch w.moved phases.Prepared) → AreNumbered w.moved.gives
    → (folds_on (Some f) (finish_records tx phases.Prepared w.moved (kept_of f)) ≡ Some (with_finish f tx w.moved)) × Joint (with_finish f tx w.moved) (core_finished c tx w.moved)

abbrev pub OpenedIsJoint : Type 0
OpenedIsJoint = (f : Folds) → Compares f → IsWhole (stored_of f) → Joint f (core_opened f)

pub record Below : Type 0 where
  pub committed : CommittedStays
  pub next : NextStays
  pub ended : EndedStays
  pub copied : CopyIsTaken
  pub taken : EndedIsTaken
  pub finish : FinishSettles
  pub opened : OpenedIsJoint
  pub parts : PartsSettle
  pub copies : CopiesAre
  pub files : FilesAre

-- Lists in which a decided branch is Prepared again go with the same core: that asks only that it is open.
module _ (f : Folds) (c : Core) (joint : Joint f c) (tx : ℕ) (w : Work) (is : c.works tx ≡ Some w) (stage : w.stage ≡ decided) (has : w.branch ≡ true) (p : BranchPhase) (at : maps.get f.links.table tx ≡ Some (branch w.moved p)) (still : is_open p ≡ true) where
  abbrev back : maps.FinMap nat_cmp Branch
  back = maps.insert f.links.table tx (branch w.moved phases.Prepared)

  agrees-again : Agrees (c.works tx) (commit_of tx f.rows.commits) (maps.get f.links.table tx) → Agrees (c.works tx) (commit_of tx f.rows.commits) (Some (branch w.moved phases.Prepared))
  agrees-again a = subst (λ (o : Option Work). Agrees o (commit_of tx f.rows.commits) (Some (branch w.moved phases.Prepared))) (sym is)
      (subst (λ s. AgreesAt s w (commit_of tx f.rows.commits) (Some (branch w.moved phases.Prepared))) (sym stage)
      (let was = subst (λ s. AgreesAt s w (commit_of tx f.rows.commits) (maps.get f.links.table tx)) stage (subst (λ (o : Option Work). Agrees o (commit_of tx f.rows.commits) (maps.get f.links.table tx)) is a) in
      (was.0, phases.Prepared, sym (ap (λ b. cond b (Some (branch w.moved phases.Prepared)) None) has), refl)))

  drawn-again : (q : ℕ) (b : Branch) → maps.get back q ≡ Some b → AreDrawn f.rows.opening b.moved.gives × AreDrawn f.rows.opening b.moved.takes
  drawn-again q b there = ⊎_elim
      (λ (e : q ≡ tx).
      let same : branch w.moved phases.Prepared ≡ b = some_same (branch w.moved phases.Prepared) b (sym (get-here f.links.table tx (branch w.moved phases.Prepared)) ∙ ap (maps.get back) (sym e) ∙ there) in
      (let P : Branch → Type 0 = λ x. AreDrawn f.rows.opening x.moved.gives × AreDrawn f.rows.opening x.moved.takes in subst P same (joint.drawn_branches tx (branch w.moved p) at)))
      (λ (other : q ≢ tx). joint.drawn_branches q b (sym (get-there f.links.table tx (branch w.moved phases.Prepared) q other) ∙ there))
      (cases_eq q tx)

  not-done : (m : Moved) → Some (branch w.moved p) ≡ Some (branch m phases.Done) → ⊥
  not-done m e = false_true (sym (ap (λ (x : Branch). is_open x.phase) (some_same (branch w.moved p) (branch m phases.Done) e)) ∙ still)

  pub joint-again : Joint (with_table f back) c
  joint-again = record {
    commits = joint.commits;
    rows_opening = joint.rows_opening;
    links_opening = joint.links_opening;
    files = joint.files;
    copies = joint.copies;
    backups = joint.backups;
    agrees = λ q. ⊎_elim
        (λ (e : q ≡ tx).
        let P : ℕ → Type 0 = λ t. Agrees (c.works t) (commit_of t f.rows.commits) (maps.get back t) in
        subst P (sym e) (subst (λ (o : Option Branch). Agrees (c.works tx) (commit_of tx f.rows.commits) o) (sym (get-here f.links.table tx (branch w.moved phases.Prepared))) (agrees-again (joint.agrees tx))))
        (λ (other : q ≢ tx). subst (λ (o : Option Branch). Agrees (c.works q) (commit_of q f.rows.commits) o) (sym (get-there f.links.table tx (branch w.moved phases.Prepared) q other)) (joint.agrees q))
        (cases_eq q tx);
    ended = λ q done.
        let was = joint.ended q done in
        (was.0, get-there f.links.table tx (branch w.moved phases.Prepared) q (λ (e : q ≡ tx). not-done was.0 (sym at ∙ ap (maps.get f.links.table) (sym e) ∙ was.1)) ∙ was.1);
    distinct = joint.distinct;
    moved = joint.moved;
    apart = joint.apart;
    plain = joint.plain;
    ready = joint.ready;
    held = joint.held;
    numbers = λ q late.
        let none = joint.numbers q late in
        (none.0, none.1, get-there f.links.table tx (branch w.moved phases.Prepared) q (λ (e : q ≡ tx). none_some (branch w.moved p) (sym none.2 ∙ ap (maps.get f.links.table) e ∙ at)) ∙ none.2);
    small = joint.small;
    drawn_commits = joint.drawn_commits;
    drawn_branches = drawn-again;
    whole = joint.whole;
  }

abbrev pub ending : ℕ → List Written
ending tx = in_links (links_records.Done tx) ∷ in_rows (rows_records.Ended tx) ∷ []

-- what Done and Ended leave, and the files
module _ (tx : ℕ) (last : Folds) where
  ending-keeps : (g : Folds) → folds_on (Some g) (ending tx) ≡ Some last → (last.files ≡ g.files) × (last.copies ≡ g.copies)
  ending-keeps g = by (links_step g.links (links_records.Done tx))
    where
      rows : (l : Branches) (o : Option Commits) → with_rows (record g { links = l }) o ≡ Some last → (last.files ≡ g.files) × (last.copies ≡ g.copies)
      rows l None e = absurd (none_some last e)
      rows l (Some r) e =
          let same : record g { links = l; rows = r } ≡ last = some_same (record g { links = l; rows = r }) last e in
          (sym (ap (λ (h : Folds). h.files) same), sym (ap (λ (h : Folds). h.copies) same))

      by : (o : Option Branches) → folds_on (with_links g o) (in_rows (rows_records.Ended tx) ∷ []) ≡ Some last → (last.files ≡ g.files) × (last.copies ≡ g.copies)
      by None e = absurd (none_some last e)
      by (Some l) e = rows l (rows_step g.rows (rows_records.Ended tx)) e

  pub batch-keeps : (g : Folds) (cs : List FileChange) → folds_on (Some g) (in_files (files_records.Batch tx cs) ∷ ending tx) ≡ Some last → (with_changes g.files cs ≡ Some last.files) × (last.copies ≡ g.copies)
  batch-keeps g cs = by (with_changes g.files cs)
    where
      by : (o : Option Files) → folds_on (with_files g o) (ending tx) ≡ Some last → (o ≡ Some last.files) × (last.copies ≡ g.copies)
      by None e = absurd (none_some last e)
      by (Some fs) e = let two = ending-keeps (record g { files = fs }) e in (ap (λ (x : Files). Some x) (sym two.0), two.1)

-- FROM COMMITTED ON
module _ (below : Below) (f : Folds) (s : Stored) (stand : IsStand f s) (tx : ℕ) (m : Moved) (d : Commit) (committed : commit_of tx f.rows.commits ≡ Some d) (at : maps.get f.links.table tx ≡ Some (branch m phases.Committed)) where
  abbrev k : Kept
  k = kept_of f

  some : is_some (commit_of tx f.rows.commits) ≡ true
  some = ap is_some committed

  pub ready : IsReady m k
  ready = stand.compares.ready tx m some (ap (λ (o : Option Branch). open_branch o) at)

  has-branch : d.branch ≡ true
  has-branch = by d.branch refl (stand.compares.branches tx d committed)
    where
      by : (b : Bool) → d.branch ≡ b → IsBranch b d.gives d.takes (maps.get f.links.table tx) → d.branch ≡ true
      by true e is = e
      by false e is = absurd (none_some (branch m phases.Committed) (sym is.0 ∙ at))

  once : has_number tx f.rows.ended ≡ false
  once = by (has_number tx f.rows.ended) refl
    where
      by : (b : Bool) → has_number tx f.rows.ended ≡ b → has_number tx f.rows.ended ≡ false
      by true e = let done = stand.compares.ended tx e in absurd (false_true (ap (λ (x : Branch). is_open x.phase) (some_same (branch done.0 phases.Done) (branch m phases.Committed) (sym done.1 ∙ at))))
      by false e = e

  -- behind the files
  abbrev filed : Folds
  filed = with_kept f (settle_one m k).files (settle_one m k).copies

  next-done : next_record tx m (kept_of filed) ≡ in_links (links_records.Done tx)
  next-done =
      ap (by_missing tx m (kept_of filed)) (none-missing below.copies m k (kept_of filed) ready refl)
      ∙ ap (after_copies tx) (no-batch below.parts below.copies below.files m k ready)

  abbrev done : Folds
  done = record { rows = f.rows; links = record { opening = f.links.opening; table = maps.insert f.links.table tx (branch m phases.Done); held = (settle_one m k).held }; files = (settle_one m k).files; copies = (settle_one m k).copies; backups = f.backups }

  done-taken : folds_step filed (in_links (links_records.Done tx)) ≡ Some done
  unfolding settle_one
  done-taken = ap (λ (o : Option Branch). with_links filed (done_on f.links tx o)) at

  ended-taken : folds_step done (in_rows (rows_records.Ended tx)) ≡ Some (with_finish f tx m)
  ended-taken = ap (with_rows done) (below.taken f.rows tx d committed has-branch once)

  done-walk : IsStand filed s → Walk filed (ending tx) (with_finish f tx m) s
  done-walk stand_filed =
      let one = below.next filed s tx m stand_filed some at in
      let accepted : folds_step filed (in_links (links_records.Done tx)) ≡ Some one.0 = ap (folds_step filed) (sym next-done) ∙ one.1.accepted in
      let stand_done : IsStand done s = subst (λ (g : Folds). IsStand g s) (some_same one.0 done (sym accepted ∙ done-taken)) one.1.stand in
      let two = below.ended done s tx m d stand_done committed has-branch (get-here f.links.table tx (branch m phases.Done)) once in
      let stand_last : IsStand (with_finish f tx m) s = subst (λ (g : Folds). IsStand g s) (some_same two.0 (with_finish f tx m) (sym two.1.accepted ∙ ended-taken)) two.1.stand in
      (stand_filed, done, done-taken, (stand_done, with_finish f tx m, ended-taken, (refl, stand_last)))

  -- behind the copies
  abbrev copied : Folds
  copied = with_kept f f.files (settle_one m k).copies

  next-batch : (c : FileChange) (cs : List FileChange) → batch_changes m k ≡ c ∷ cs → next_record tx m (kept_of copied) ≡ in_files (files_records.Batch tx (c ∷ cs))
  next-batch c cs are =
      ap (by_missing tx m (kept_of copied)) (none-missing below.copies m k (kept_of copied) ready refl)
      ∙ ap (after_copies tx) (same-batch below.parts below.copies below.files m k ready ∙ are)

  batch-walk : (c : FileChange) (cs : List FileChange) → batch_changes m k ≡ c ∷ cs → with_changes f.files (c ∷ cs) ≡ Some (settle_one m k).files → IsStand copied s
      → Walk copied (in_files (files_records.Batch tx (c ∷ cs)) ∷ ending tx) (with_finish f tx m) s
  batch-walk c cs are does stand_copied =
      let one = below.next copied s tx m stand_copied some at in
      let step : folds_step copied (in_files (files_records.Batch tx (c ∷ cs))) ≡ Some filed = ap (with_files copied) does in
      let accepted : folds_step copied (in_files (files_records.Batch tx (c ∷ cs))) ≡ Some one.0 = ap (folds_step copied) (sym (next-batch c cs are)) ∙ one.1.accepted in
      let stand_filed : IsStand filed s = subst (λ (g : Folds). IsStand g s) (some_same one.0 filed (sym accepted ∙ step)) one.1.stand in
      (stand_copied, filed, step, done-walk stand_filed)

  behind-copies : (copies : Copies) → IsStand (with_kept f f.files copies) s → folds_on (Some (with_kept f f.files copies)) (batch_of tx (batch_changes m k) ++ ending tx) ≡ Some (with_finish f tx m)
      → Walk (with_kept f f.files copies) (batch_of tx (batch_changes m k) ++ ending tx) (with_finish f tx m) s
  behind-copies copies stand_copies = by (batch_changes m k) refl
    where
      by : (cs : List FileChange) → batch_changes m k ≡ cs → folds_on (Some (with_kept f f.files copies)) (batch_of tx cs ++ ending tx) ≡ Some (with_finish f tx m) → Walk (with_kept f f.files copies) (batch_of tx cs ++ ending tx) (with_finish f tx m) s
      by [] are taken =
          let two = ending-keeps tx (with_finish f tx m) (with_kept f f.files copies) taken in
          let same : filed ≡ with_kept f f.files copies = λ i. with_kept f (two.0 i) (two.1 i) in
          subst (λ (g : Folds). Walk g (ending tx) (with_finish f tx m) s) same (done-walk (subst (λ (g : Folds). IsStand g s) (sym same) stand_copies))
      by (c ∷ cs) are taken =
          let two = batch-keeps tx (with_finish f tx m) (with_kept f f.files copies) (c ∷ cs) taken in
          let same : copied ≡ with_kept f f.files copies = λ i. with_kept f f.files (two.1 i) in
          subst (λ (g : Folds). Walk g (in_files (files_records.Batch tx (c ∷ cs)) ∷ ending tx) (with_finish f tx m) s) same (batch-walk c cs are two.0 (subst (λ (g : Folds). IsStand g s) (sym same) stand_copies))

  -- the records as a whole: those of a Finish from Prepared on, whose first leads here
  abbrev prepared : Folds
  prepared = with_table f (maps.insert f.links.table tx (branch m phases.Prepared))

  first-taken : folds_step prepared (in_links (links_records.Committed tx)) ≡ Some f
  first-taken =
      ap (λ (o : Option Branch). with_links prepared (moves_on phases.Prepared phases.Committed prepared.links tx o)) (get-here f.links.table tx (branch m phases.Prepared))
      ∙ ap (λ (t : maps.FinMap nat_cmp Branch). Some (with_table f t)) (insert-twice f.links.table tx (branch m phases.Prepared) (branch m phases.Committed) ∙ insert-same f.links.table tx (branch m phases.Committed) at)

  pub all-taken : AreNumbered m.gives → folds_on (Some f) (finish_records tx phases.Committed m k) ≡ Some (with_finish f tx m)
  all-taken numbers =
      let joint : Joint f (core_opened f) = below.opened f stand.compares (subst IsWhole stand.is stand.whole) in
      let w : Work = record { stage = decided; branch = true; moved = m } in
      let is : (core_opened f).works tx ≡ Some w = λ i. opened (committed i) (at i) in
      let again : Joint prepared (core_opened f) = joint-again f (core_opened f) joint tx w is refl refl phases.Committed at refl in
      let whole = (below.finish prepared (core_opened f) tx w again is refl refl (get-here f.links.table tx (branch m phases.Prepared)) numbers).0 in
      ap (λ (o : Option Folds). folds_on o (finish_records tx phases.Committed m k)) (sym first-taken)
      ∙ whole
      ∙ ap (λ (t : maps.FinMap nat_cmp Branch). Some (record { rows = with_ended f.rows tx; links = record { opening = f.links.opening; table = t; held = (settle_one m k).held }; files = (settle_one m k).files; copies = (settle_one m k).copies; backups = f.backups }))
      (insert-twice f.links.table tx (branch m phases.Prepared) (branch m phases.Done))

  pub committed-walk : AreNumbered m.gives → Walk f (finish_records tx phases.Committed m k) (with_finish f tx m) s
  committed-walk numbers =
      let tail : List Written = batch_of tx (batch_changes m k) ++ ending tx in
      let parts : copy_records m k ++ tail ≡ finish_records tx phases.Committed m k = sym (append_assoc (copy_records m k) (batch_of tx (batch_changes m k)) (ending tx)) in
      subst (λ (ws : List Written). Walk f ws (with_finish f tx m) s) parts
      (copies-walk below.next below.copied f s tx m some at (with_finish f tx m) f.copies tail behind-copies m.gives f.copies numbers (own-all m.gives numbers) (λ x among. refl) (λ q less. refl) stand
      (ap (folds_on (Some f)) parts ∙ all-taken numbers))

-- A FINISH THAT GOES ON, from whatever phase in doubt
module _ (below : Below) (f : Folds) (s : Stored) (tx : ℕ) (m : Moved) (stand : IsStand f s) (some : is_some (commit_of tx f.rows.commits) ≡ true) (numbers : AreNumbered m.gives) where
  prepared-walk : maps.get f.links.table tx ≡ Some (branch m phases.Prepared) → Walk f (finish_records tx phases.Prepared m (kept_of f)) (with_finish f tx m) s
  prepared-walk at =
      let d = the_some (commit_of tx f.rows.commits) some in
      let one = below.committed f s tx m stand some at in
      let later : Folds = with_table f (maps.insert f.links.table tx (branch m phases.Committed)) in
      let step : folds_step f (in_links (links_records.Committed tx)) ≡ Some later = ap (λ (o : Option Branch). with_links f (moves_on phases.Prepared phases.Committed f.links tx o)) at in
      let stand_later : IsStand later s = subst (λ (g : Folds). IsStand g s) (some_same one.0 later (sym one.1.accepted ∙ step)) one.1.stand in
      let rest : Walk later (finish_records tx phases.Committed m (kept_of f)) (with_finish later tx m) s = committed-walk below later s stand_later tx m d.0 d.1 (get-here f.links.table tx (branch m phases.Committed)) numbers in
      let same : with_finish later tx m ≡ with_finish f tx m =
      ap (λ (t : maps.FinMap nat_cmp Branch). record { rows = with_ended f.rows tx; links = record { opening = f.links.opening; table = t; held = (settle_one m (kept_of f)).held }; files = (settle_one m (kept_of f)).files; copies = (settle_one m (kept_of f)).copies; backups = f.backups })
      (insert-twice f.links.table tx (branch m phases.Committed) (branch m phases.Done)) in
      (stand, later, step, subst (λ (g : Folds). Walk later (finish_records tx phases.Committed m (kept_of f)) g s) same rest)

  pub finish-walk : (p : BranchPhase) → maps.get f.links.table tx ≡ Some (branch m p) → is_open p ≡ true → Walk f (finish_records tx p m (kept_of f)) (with_finish f tx m) s
  finish-walk phases.Prepared at still = prepared-walk at
  finish-walk phases.Committed at still = let d = the_some (commit_of tx f.rows.commits) some in committed-walk below f s stand tx m d.0 d.1 at numbers
  finish-walk phases.Done at still = absurd (false_true still)
  finish-walk phases.Aborted at still = absurd (false_true still)
