-- A FINISH, RECORD BY RECORD: its records are the next one, and those of the lists behind it.
use Rattle.std.proofs.Common.{◌≡◌, ◌⊎◌, inl, inr, ⊎_elim, ℕ, List, [], ◌∷◌, ◌++◌, Bool, true, false, cond, ◌&&◌, Option, Some, None, is_none, is_some, refl, sym, ◌∙◌, ap, subst}
use Rattle.std.specs.Cmp.Lexicographic.{nat_list_cmp_total}
use Rattle.std.specs.FinMap as maps
use Rattle.std.specs.FinMap.{get-insert}
use Rattle.std.specs.List.{cons_option, filter_map, find, list_any}
use Rattle.dl_base.specs.declared.file.File.{File}
use Rattle.dl_base.specs.declared.file.FileChange.{FileChange}
use Rattle.dl_base.specs.declared.value.LinkRow.{LinkRow}
use Rattle.dl_codec.specs.declared.archive.ArchiveRecord.TheVariants as archive_records
use Rattle.dl_codec.specs.declared.files.FilesRecord.TheVariants as files_records
use Rattle.dl_codec.specs.declared.links.BranchPhase.{BranchPhase}
use Rattle.dl_codec.specs.declared.links.BranchPhase.TheVariants as phases
use Rattle.dl_codec.specs.declared.links.LinksRecord.TheVariants as links_records
use Rattle.meaning_areas.specs.Branches.{Branch, branch, done_on, moves_on, with_done}
use Rattle.meaning_areas.specs.Commits.{Commit, commit_of}
use Rattle.meaning_areas.specs.Finishing.{AreNumbered, after_copies, batch_changes, batch_of, by_missing, copy_by, copy_records, file_copy, finish_records, is_missing, next_record}
use Rattle.meaning_areas.specs.Lists.{Folds, Written, folds_on, folds_step, in_archive, in_files, in_links, with_copies, with_files, with_links}
use Rattle.meaning_areas.specs.Moving.{with_finish, with_kept, with_table}
use Rattle.meaning_areas.specs.Stands.{IsStand, Stored, is_open, kept_of}
use Rattle.meaning_files.specs.Files.{Files}
use Rattle.meaning_settling.specs.Apart.{IsPart}
use Rattle.meaning_settling.specs.Keyed.{is_at}
use Rattle.meaning_settling.specs.Settling.{Copies, Copy, Kept, Moved, by_give, copy_after, copy_of, first_copy, link_key, numbered, settle_one}
use Rattle.meaning_opening.specs.Left.{first_left, left_to_write}
use Rattle.meaning_opening.proofs.Copying.{AreOwn, IsAmong, copy-makes, copy-misses, copying, missing-is, next-copy, own-all}
use Rattle.meaning_opening.proofs.Finishing.{Below, all-taken, batch-keeps, ending, finish-walk, ready}
use Rattle.meaning_opening.proofs.Plain.{either, false_true, get-here, is_at-same, is_at-self, or-left, or-right, some_same, the_some}
use Rattle.meaning_opening.proofs.Settling.{each-there, no-batch, part-batch}
use Rattle.meaning_opening.proofs.Walks.{Walk, walk-first}

-- the copies of some links with some more there

same-copying : (f : Folds) (first more : Copies) (gs : List LinkRow) → ((x : LinkRow) → IsAmong gs x → maps.get more (link_key x.link) ≡ maps.get first (link_key x.link)) → copying more f gs ≡ copying first f gs
same-copying f first more [] same = refl
same-copying f first more (g ∷ gs) same =
    let here = same g (or-left (is_at (link_key g.link) (link_key g.link)) (list_any (λ (y : LinkRow). is_at (link_key g.link) (link_key y.link)) gs) (is_at-self (link_key g.link))) in
    let behind = same-copying f first more gs (λ x among. same x (or-right (is_at (link_key x.link) (link_key g.link)) (list_any (λ (y : LinkRow). is_at (link_key x.link) (link_key y.link)) gs) among)) in
    λ i. cons_option (copy_by g (here i) (maps.get f.files g.path)) (behind i)

still-none : (g : LinkRow) (c : Option Copy) (o : Option File) (d : Copy) (b : Bool) → copy_by g c o ≡ None → copy_by g (cond b (Some d) c) o ≡ None
still-none g c o d true none = refl
still-none g c o d false none = none

-- THE FIRST COPY that is missing
record FirstOf (f : Folds) (m : Moved) (gs : List LinkRow) : Type 0 where
  link : LinkRow
  file : File
  own : numbered m.gives (link_key link.link) ≡ Some link
  none : maps.get f.copies (link_key link.link) ≡ None
  there : maps.get f.files link.path ≡ Some file
  kept : link.options.recovery ≡ true
  found : find (is_missing m f.files f.copies) gs ≡ Some link
  copies : copying f.copies f gs ≡ in_archive (archive_records.Copy (file_copy link file)) ∷ copying (maps.insert f.copies (link_key link.link) (copy_of file)) f gs

abbrev NoneOf : Folds → Moved → List LinkRow → Type 0
NoneOf f m gs = (copying f.copies f gs ≡ []) × (find (is_missing m f.files f.copies) gs ≡ None)

module _ (f : Folds) (m : Moved) (g : LinkRow) (gs : List LinkRow) where
  passed : is_missing m f.files f.copies g ≡ false → copy_by g (maps.get f.copies (link_key g.link)) (maps.get f.files g.path) ≡ None → NoneOf f m gs ⊎ FirstOf f m gs → NoneOf f m (g ∷ gs) ⊎ FirstOf f m (g ∷ gs)
  passed fails lacks rest = ⊎_elim
      (λ (e : NoneOf f m gs). inl (ap (λ (o : Option Written). cons_option o (copying f.copies f gs)) lacks ∙ e.0, ap (λ b. cond b (Some g) (find (is_missing m f.files f.copies) gs)) fails ∙ e.1))
      (λ (r : FirstOf f m gs).
      let more : Copies = maps.insert f.copies (link_key r.link.link) (copy_of r.file) in
      let still : copy_by g (maps.get more (link_key g.link)) (maps.get f.files g.path) ≡ None =
      ap (λ (c : Option Copy). copy_by g c (maps.get f.files g.path)) (get-insert nat_list_cmp_total f.copies (link_key r.link.link) (copy_of r.file) (link_key g.link))
      ∙ still-none g (maps.get f.copies (link_key g.link)) (maps.get f.files g.path) (copy_of r.file) (is_at (link_key g.link) (link_key r.link.link)) lacks in
      inr (record {
        link = r.link;
        file = r.file;
        own = r.own;
        none = r.none;
        there = r.there;
        kept = r.kept;
        found = ap (λ b. cond b (Some g) (find (is_missing m f.files f.copies) gs)) fails ∙ r.found;
        copies = ap (λ (o : Option Written). cons_option o (copying f.copies f gs)) lacks ∙ r.copies
            ∙ ap (λ (ws : List Written). in_archive (archive_records.Copy (file_copy r.link r.file)) ∷ ws) (sym (ap (λ (o : Option Written). cons_option o (copying more f gs)) still));
      }))
      rest

  found-here : AreNumbered (g ∷ gs) → numbered m.gives (link_key g.link) ≡ Some g → (file : File) → maps.get f.copies (link_key g.link) ≡ None → maps.get f.files g.path ≡ Some file → g.options.recovery ≡ true → FirstOf f m (g ∷ gs)
  found-here once own file none there kept =
      let record_of : Written = in_archive (archive_records.Copy (file_copy g file)) in
      let more : Copies = maps.insert f.copies (link_key g.link) (copy_of file) in
      let now : maps.get more (link_key g.link) ≡ Some (copy_of file) =
      get-insert nat_list_cmp_total f.copies (link_key g.link) (copy_of file) (link_key g.link) ∙ ap (λ b. cond b (Some (copy_of file)) (maps.get f.copies (link_key g.link))) (is_at-self (link_key g.link)) in
      let behind : copying more f gs ≡ copying f.copies f gs = same-copying f f.copies more gs (λ x among.
      get-insert nat_list_cmp_total f.copies (link_key g.link) (copy_of file) (link_key x.link) ∙ ap (λ b. cond b (Some (copy_of file)) (maps.get f.copies (link_key x.link))) (once.0 x among)) in
      record {
        link = g;
        file = file;
        own = own;
        none = none;
        there = there;
        kept = kept;
        found = ap (λ b. cond b (Some g) (find (is_missing m f.files f.copies) gs)) (copy-misses f m f.copies g file own none there kept);
        copies = (λ i. cons_option (copy_by g (none i) (there i)) (copying f.copies f gs))
            ∙ ap (λ b. cons_option (cond b (Some record_of) None) (copying f.copies f gs)) kept
            ∙ ap (λ (ws : List Written). record_of ∷ ws) (sym (ap (λ (c : Option Copy). cons_option (copy_by g c (maps.get f.files g.path)) (copying more f gs)) now ∙ behind));
      }

first-of : (f : Folds) (m : Moved) (gs : List LinkRow) → AreNumbered gs → AreOwn m.gives gs → NoneOf f m gs ⊎ FirstOf f m gs
first-of f m [] once own = inl (refl, refl)
first-of f m (g ∷ gs) once own = by (first-of f m gs once.1 own.1) (maps.get f.copies (link_key g.link)) refl (maps.get f.files g.path) refl
  where
    by : NoneOf f m gs ⊎ FirstOf f m gs → (c : Option Copy) → maps.get f.copies (link_key g.link) ≡ c → (o : Option File) → maps.get f.files g.path ≡ o → NoneOf f m (g ∷ gs) ⊎ FirstOf f m (g ∷ gs)
    by rest (Some c) is o at = passed f m g gs (missing-is f m f.copies g (Some g) (Some c) own.0 is) (ap (λ (x : Option Copy). copy_by g x (maps.get f.files g.path)) is) rest
    by rest None is None at = passed f m g gs
        (missing-is f m f.copies g (Some g) None own.0 is ∙ ap (λ (o : Option File). is_some (cond g.options.recovery (first_copy None o) None)) at ∙ neither g.options.recovery)
        (λ i. copy_by g (is i) (at i)) rest
      where
        neither : (b : Bool) → is_some (cond b (first_copy None None) None) ≡ false
        neither true = refl
        neither false = refl
    by rest None is (Some file) at = on g.options.recovery refl
      where
        on : (b : Bool) → g.options.recovery ≡ b → NoneOf f m (g ∷ gs) ⊎ FirstOf f m (g ∷ gs)
        on true kept = inr (found-here f m g gs once own.0 file is at kept)
        on false kept = passed f m g gs
            (missing-is f m f.copies g (Some g) None own.0 is ∙ ap (λ b. is_some (cond b (first_copy None (maps.get f.files g.path)) None)) kept)
            ((λ i. copy_by g (is i) (at i)) ∙ ap (λ b. cond b (Some (in_archive (archive_records.Copy (file_copy g file)))) None) kept) rest

-- where none is missing none is written
none-copied : (m : Moved) (files : Files) (copies : Copies) (gs : List LinkRow) → AreOwn m.gives gs → ((g : LinkRow) → is_missing m files copies g ≡ false) → filter_map (λ (g : LinkRow). copy_by g (maps.get copies (link_key g.link)) (maps.get files g.path)) gs ≡ []
none-copied m files copies [] own fails = refl
none-copied m files copies (g ∷ gs) own fails =
    ap (λ (o : Option Written). cons_option o (filter_map (λ (x : LinkRow). copy_by x (maps.get copies (link_key x.link)) (maps.get files x.path)) gs)) (by (maps.get copies (link_key g.link)) refl (maps.get files g.path) refl)
    ∙ none-copied m files copies gs own.1 fails
  where
    by : (c : Option Copy) → maps.get copies (link_key g.link) ≡ c → (o : Option File) → maps.get files g.path ≡ o → copy_by g c o ≡ None
    by (Some c) is o at = refl
    by None is None at = refl
    by None is (Some file) at = on g.options.recovery refl
      where
        on : (b : Bool) → g.options.recovery ≡ b → cond b (Some (in_archive (archive_records.Copy (file_copy g file)))) None ≡ None
        on false kept = refl
        on true kept = absurd (false_true (sym (fails g)
            ∙ (λ i. is_none (is i) && is_some (by_give files (own.0 i) None)) ∙ ap (λ b. is_some (cond b (first_copy None (maps.get files g.path)) None)) kept ∙ ap (λ (o : Option File). is_some (first_copy None o)) at))

-- ONE RECORD
pub record Step (f : Folds) (tx : ℕ) (m : Moved) (p : BranchPhase) : Type 0 where
  pub later : Folds
  pub phase : BranchPhase
  pub taken : folds_step f (first_left tx p m (kept_of f)) ≡ Some later
  pub at : maps.get later.links.table tx ≡ Some (branch m phase)
  pub left : left_to_write tx p m (kept_of f) ≡ first_left tx p m (kept_of f) ∷ left_to_write tx phase m (kept_of later)

module _ (below : Below) (f : Folds) (s : Stored) (stand : IsStand f s) (tx : ℕ) (m : Moved) (d : Commit) (committed : commit_of tx f.rows.commits ≡ Some d) (at : maps.get f.links.table tx ≡ Some (branch m phases.Committed)) (numbers : AreNumbered m.gives) where
  abbrev k : Kept
  k = kept_of f

  -- a copy
  copy-step : FirstOf f m m.gives → Step f tx m phases.Committed
  copy-step r =
      let record_of : Written = in_archive (archive_records.Copy (file_copy r.link r.file)) in
      let more : Copies = maps.insert f.copies (link_key r.link.link) (copy_of r.file) in
      let next : next_record tx m k ≡ record_of = next-copy f m tx f.copies r.link r.file r.own r.there r.kept r.found in
      let part : IsPart (λ n. is_at n (link_key r.link.link)) false false m k (record { files = f.files; copies = more; held = f.links.held }) = record {
        at_copies = λ n. get-insert nat_list_cmp_total f.copies (link_key r.link.link) (copy_of r.file) n ∙ ⊎_elim
            (λ (here : is_at n (link_key r.link.link) ≡ true).
            ap (λ b. cond b (Some (copy_of r.file)) (maps.get f.copies n)) here ∙ sym (copy-makes f m r.link r.file r.own r.there r.kept)
            ∙ ap (copy_after m f.files (link_key r.link.link)) (sym r.none) ∙ ap (λ (y : List ℕ). copy_after m f.files y (maps.get f.copies y)) (sym (is_at-same n (link_key r.link.link) here))
            ∙ sym (ap (λ b. cond b (copy_after m f.files n (maps.get f.copies n)) (maps.get f.copies n)) here))
            (λ (there : is_at n (link_key r.link.link) ≡ false).
            ap (λ b. cond b (Some (copy_of r.file)) (maps.get f.copies n)) there ∙ sym (ap (λ b. cond b (copy_after m f.files n (maps.get f.copies n)) (maps.get f.copies n)) there))
            (either (is_at n (link_key r.link.link)));
        at_files = λ p. refl;
        at_held = λ p. refl;
        order = λ e. absurd (false_true e);
      } in
      let batch : batch_changes m (record { files = f.files; copies = more; held = f.links.held }) ≡ batch_changes m k =
      part-batch below.parts below.copies below.files m k (ready below f s stand tx m d committed at) (λ n. is_at n (link_key r.link.link)) more part in
      record {
        later = with_kept f f.files more;
        phase = phases.Committed;
        taken = ap (folds_step f) next ∙ ap (with_copies f) (below.copied f.copies r.link r.file r.none);
        at = at;
        left = ap (λ (ws : List Written). (ws ++ batch_of tx (batch_changes m k)) ++ ending tx) r.copies
            ∙ (λ i. sym next i ∷ ((copying more f m.gives ++ batch_of tx (sym batch i)) ++ ending tx));
      }

  -- the files, or Done
  rest-step : NoneOf f m m.gives → Step f tx m phases.Committed
  rest-step none = by (batch_changes m k) refl
    where
      by : (cs : List FileChange) → batch_changes m k ≡ cs → Step f tx m phases.Committed
      by [] are =
          let next : next_record tx m k ≡ in_links (links_records.Done tx) = ap (by_missing tx m k) none.1 ∙ ap (after_copies tx) are in
          record {
            later = record { rows = f.rows; links = with_done f.links tx m; files = f.files; copies = f.copies; backups = f.backups };
            phase = phases.Done;
            taken = ap (folds_step f) next ∙ ap (λ (o : Option Branch). with_links f (done_on f.links tx o)) at;
            at = get-here f.links.table tx (branch m phases.Done);
            left = (λ i. (none.0 i ++ batch_of tx (are i)) ++ ending tx) ∙ ap (λ (w : Written). w ∷ left_to_write tx phases.Done m k) (sym next);
          }
      by (c ∷ cs) are =
          let record_of : Written = in_files (files_records.Batch tx (c ∷ cs)) in
          let next : next_record tx m k ≡ record_of = ap (by_missing tx m k) none.1 ∙ ap (after_copies tx) are in
          let all : finish_records tx phases.Committed m k ≡ record_of ∷ ending tx = λ i. (none.0 i ++ batch_of tx (are i)) ++ ending tx in
          let does = batch-keeps tx (with_finish f tx m) f (c ∷ cs) (ap (folds_on (Some f)) (sym all) ∙ all-taken below f s stand tx m d committed at numbers) in
          let settled : Kept = record { files = (settle_one m k).files; copies = (settle_one m k).copies; held = f.links.held } in
          let later : Folds = with_kept f (settle_one m k).files f.copies in
          let same : kept_of later ≡ settled = λ i. record { files = (settle_one m k).files; copies = sym does.1 i; held = f.links.held } in
          let is_ready = ready below f s stand tx m d committed at in
          let no_copies : copy_records m settled ≡ [] = none-copied m settled.files settled.copies m.gives (own-all m.gives numbers) (each-there below.copies m k settled is_ready refl) in
          let nothing : batch_changes m settled ≡ [] = no-batch below.parts below.copies below.files m k is_ready in
          let left_later : finish_records tx phases.Committed m (kept_of later) ≡ ending tx = ap (finish_records tx phases.Committed m) same ∙ (λ i. (no_copies i ++ batch_of tx (nothing i)) ++ ending tx) in
          record {
            later = later;
            phase = phases.Committed;
            taken = ap (folds_step f) next ∙ ap (with_files f) does.0;
            at = at;
            left = all ∙ (λ i. sym next i ∷ sym left_later i);
          }

  committed-step : Step f tx m phases.Committed
  committed-step = ⊎_elim rest-step copy-step (first-of f m m.gives numbers (own-all m.gives numbers))

module _ (below : Below) (f : Folds) (s : Stored) (tx : ℕ) (m : Moved) (stand : IsStand f s) (some : is_some (commit_of tx f.rows.commits) ≡ true) (numbers : AreNumbered m.gives) where
  pub finish-step : (p : BranchPhase) → maps.get f.links.table tx ≡ Some (branch m p) → is_open p ≡ true → Step f tx m p
  finish-step phases.Prepared at still = record {
    later = with_table f (maps.insert f.links.table tx (branch m phases.Committed));
    phase = phases.Committed;
    taken = ap (λ (o : Option Branch). with_links f (moves_on phases.Prepared phases.Committed f.links tx o)) at;
    at = get-here f.links.table tx (branch m phases.Committed);
    left = refl;
  }
  finish-step phases.Committed at still = let d = the_some (commit_of tx f.rows.commits) some in committed-step below f s stand tx m d.0 d.1 at numbers
  finish-step phases.Done at still = absurd (false_true still)
  finish-step phases.Aborted at still = absurd (false_true still)

  in-doubt : (p : BranchPhase) → is_open p ≡ true → left_to_write tx p m (kept_of f) ≡ finish_records tx p m (kept_of f)
  in-doubt phases.Prepared still = refl
  in-doubt phases.Committed still = refl
  in-doubt phases.Done still = absurd (false_true still)
  in-doubt phases.Aborted still = absurd (false_true still)

  -- the lists behind it stand for the same
  pub step-stands : (p : BranchPhase) (at : maps.get f.links.table tx ≡ Some (branch m p)) (still : is_open p ≡ true) (one : Step f tx m p) → IsStand one.later s
  step-stands p at still one =
      let ws : List Written = left_to_write tx one.phase m (kept_of one.later) in
      let walk : Walk f (first_left tx p m (kept_of f) ∷ ws) (with_finish f tx m) s = subst (λ (vs : List Written). Walk f vs (with_finish f tx m) s) (sym (in-doubt p still) ∙ one.left) (finish-walk below f s tx m stand some numbers p at still) in
      subst (λ (g : Folds). IsStand g s) (some_same walk.1 one.later (sym walk.2 ∙ one.taken)) (walk-first ws walk.1 (with_finish f tx m) s walk.3)
