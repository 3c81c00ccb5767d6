-- The records of a step lead to the lists of the state behind it: steps of sessions, Tick, Backup and stops.
use Rattle.std.proofs.Common.{◌≡◌, ◌≢◌, ⊎_elim, ℕ, ◌+◌, ◌*◌, ◌^◌, ◌<◌, List, [], ◌∷◌, ◌++◌, Bool, true, false, not, cond, ◌&&◌, ◌||◌, length, map, Option, Some, None, refl, sym, ◌∙◌, ap, subst}
use Rattle.std.proofs.lemmas.Bool.{cases_eq}
use Rattle.std.specs.FinMap as maps
use Rattle.std.specs.List.{list_all, list_any}
use Rattle.std.specs.Ordering.{nat_cmp}
use Rattle.dl_base.specs.declared.answer.Refusal.{Refusal}
use Rattle.dl_base.specs.declared.step.Phase.{Phase}
use Rattle.dl_base.specs.declared.step.Phase.TheVariants as phases
use Rattle.dl_base.specs.declared.step.Step.TheVariants as steps
use Rattle.dl_base.specs.declared.value.LinkRow.{LinkRow}
use Rattle.dl_codec.specs.declared.backups.BackupRecord.TheVariants as backup_records
use Rattle.dl_codec.specs.declared.links.BranchPhase.{BranchPhase}
use Rattle.dl_codec.specs.declared.links.BranchPhase.TheVariants as branch_phases
use Rattle.dl_codec.specs.declared.links.LinksRecord.TheVariants as links_records
use Rattle.dl_codec.specs.declared.rows.RowsRecord.TheVariants as rows_records
use Rattle.meaning_areas.specs.Branches.{Branch, branch, is_phase, is_free, given_on, fills_stand, moves_on, links_step}
use Rattle.meaning_areas.specs.Commits.{Commit, commit_of, tables_after, rows_step}
use Rattle.meaning_areas.specs.Copies.{Backup, backups_step}
use Rattle.meaning_areas.specs.Core.{Work, decided_work, core_stored, with_work}
use Rattle.meaning_areas.specs.Finishing.{AreNumbered, finish_records}
use Rattle.meaning_areas.specs.Joint.{AgreesAt, IsCommitOf, Joint, branch_for}
use Rattle.meaning_areas.specs.Lists.{Folds, Written, in_links, in_backups, with_rows, with_links, with_backups, folds_on}
use Rattle.meaning_areas.specs.Moving.{IsClaim, core_with, with_table, with_finish, with_links_opening, with_rows_opening}
use Rattle.meaning_areas.specs.Same.{same_link, same_options}
use Rattle.meaning_areas.specs.Stands.{is_open, kept_of, past, AreDrawn}
use Rattle.meaning_areas.proofs.Deciding.{joint-backed_up}
use Rattle.meaning_areas.proofs.FinishList.{folds-append, finish-joint}
use Rattle.meaning_areas.proofs.Steps.{agrees-of, joint-dropped, joint-ended}
use Rattle.meaning_areas.proofs.Tables.{get-here, get-there, some_same}
use Rattle.meaning_areas.proofs.Taking.{rows-opened, links-opened}
use Rattle.meaning_areas.proofs.Votes.{prepared-accepted}
use Rattle.meaning_areas.proofs.Whole.{whole-backup}
use Rattle.meaning_merge.specs.Merging.{AreNamed}
use Rattle.meaning_settling.specs.Apart.{has_path}
use Rattle.meaning_settling.specs.Keyed.{is_at}
use Rattle.meaning_settling.specs.Settling.{Moved, on, link_key}
use Rattle.meaning_settling.proofs.KeyedLaws.{any-append, or-left, or-right}
use Rattle.meaning_tables.specs.Links.{links}
use Rattle.meaning_tables.specs.Tables.{Tables}
use Rattle.meaning_system.specs.Claims.{or_else, doomed, files_refusal, prepare_refusal}
use Rattle.meaning_system.specs.CoreOf.{HasClaims, claimed_by, core_of, work_at, work_by, work_of}
use Rattle.meaning_system.specs.Following.{AreClaimed, AreRising, Follows, Leads, HaveNumbers}
use Rattle.meaning_system.specs.Machine.{back_up, back_up_at, begin, on_session, on_txn, pending, settled_by, step, unfinished, voted, with_phase}
use Rattle.meaning_system.specs.State.{State, Txn, differs, has_links, is_active, is_doomed, kept_in, moved_of, number_of, numbered_txn, tables_of, txn_at, txn_of, with_txn, without_txn}
use Rattle.dl_base.specs.Answers.{is_refused}
use Rattle.meaning_system.specs.Writes.{aborted, backup_writes, image_of, prepared, session_writes, taken_by, txn_writes, when, whole_finish, writes}
use Rattle.meaning_system.proofs.Cores.{no-links, settle-empty, works-remove}
use Rattle.meaning_system.proofs.Crashing.{state-database, state-manager}
use Rattle.meaning_system.proofs.Records.{backup-taken}
use Rattle.meaning_system.proofs.Stepping.{gone-core, state-aborted, state-begun, state-finished, state-prepared, state-voted}

false_true : false ≡ true → ⊥
false_true e = cc

-- nothing is written, and nothing changes
pub stays : (f : Folds) (s : State) → Follows f s → Leads f [] s
stays f s follows = record { later = f; taken = refl; follows = follows }

-- some records, and then more
pub leads-more : (f : Folds) (xs ys : List Written) (s later : State) → Leads f xs s → ((g : Folds) → Follows g s → Leads g ys later) → Leads f (xs ++ ys) later
leads-more f xs ys s later one more =
    let two = more one.later one.follows in
    record {
      later = two.later;
      taken = folds-append (Some f) xs ys ∙ ap (λ (o : Option Folds). folds_on o ys) one.taken ∙ two.taken;
      follows = two.follows;
    }

-- a branch in a phase that is not Committed
pub uncut-put : (table : maps.FinMap nat_cmp Branch) (tx : ℕ) (b : Branch) → is_phase b.phase branch_phases.Committed ≡ false → ((q : ℕ) (x : Branch) → maps.get table q ≡ Some x → is_phase x.phase branch_phases.Committed ≡ false)
    → (q : ℕ) (x : Branch) → maps.get (maps.insert table tx b) q ≡ Some x → is_phase x.phase branch_phases.Committed ≡ false
uncut-put table tx b is uncut q x at = ⊎_elim
    (λ (e : q ≡ tx). subst (λ (y : Branch). is_phase y.phase branch_phases.Committed ≡ false) (some_same b x (sym (get-here table tx b) ∙ ap (maps.get (maps.insert table tx b)) (sym e) ∙ at)) is)
    (λ (other : q ≢ tx). uncut q x (sym (get-there table tx b q other) ∙ at))
    (cases_eq q tx)

-- the transaction of a session

pub txn-there : (s : State) (o : Option ℕ) (e : ℕ × Txn) → txn_at s o ≡ Some e → (maps.get s.txs e.0 ≡ Some e.1) × (o ≡ Some e.0)
txn-there s None e is = absurd cc
txn-there s (Some tx) e is = by (maps.get s.txs tx) refl is
  where
    by : (o : Option Txn) → maps.get s.txs tx ≡ o → numbered_txn tx o ≡ Some e → (maps.get s.txs e.0 ≡ Some e.1) × (Some tx ≡ Some e.0)
    by None at found = absurd cc
    by (Some t) at found =
        let same : (tx, t) ≡ e = some_same (tx, t) e found in
        let P : ℕ × Txn → Type 0 = λ x. (maps.get s.txs x.0 ≡ Some x.1) × (Some tx ≡ Some x.0) in
        subst P same (at, refl)

-- BEGIN
pub leads-begin : (f : Folds) (s : State) (session : ℕ) → Follows f s → number_of s + 1 < (s.rows_opening + 1) * 2 ^ 32 → Leads f (writes s (steps.Begin session)) (step s (steps.Begin session)).1
unfolding step writes
leads-begin f s session follows small = by (txn_of s session)
  where
    by : (o : Option (ℕ × Txn)) → Leads f [] (begin s session o).1
    by None = record { later = f; taken = refl; follows = record { joint = state-begun f s session follows.joint small; uncut = follows.uncut } }
    by (Some e) = stays f s follows

-- PREPARE: the record of a claim

no-fill : (ls : List LinkRow) → list_any (λ t. t.fill) (map (taken_by false) ls) ≡ false
no-fill [] = refl
no-fill (l ∷ ls) = no-fill ls

links-back : (ls : List LinkRow) → map (λ t. t.link) (map (taken_by false) ls) ≡ ls
links-back [] = refl
links-back (l ∷ ls) = ap (λ (xs : List LinkRow). l ∷ xs) (links-back ls)

or-true : (a : Bool) → (a || true) ≡ true
or-true true = refl
or-true false = refl

pub all_true : (a b : Bool) → a ≡ true → b ≡ true → (a && b) ≡ true
all_true true b e f = f
all_true false b e f = absurd cc

unfilled : (ls : List LinkRow) → list_all (λ t. t.link.options.recovery || not t.fill) (map (taken_by false) ls) ≡ true
unfilled [] = refl
unfilled (l ∷ ls) = all_true _ _ (or-true l.options.recovery) (unfilled ls)

no-fills : (ls : List LinkRow) → fills_stand (map (taken_by false) ls) ≡ true
no-fills ls = all_true _ _ (unfilled ls) (or-right (list_all (λ t. t.fill || not t.link.options.recovery) (map (taken_by false) ls)) _ (ap not (no-fill ls)))

free-back : (p : LinkRow → Bool) (ls : List LinkRow) → list_all p ls ≡ true → list_all (λ t. p t.link) (map (taken_by false) ls) ≡ true
free-back p [] e = refl
free-back p (l ∷ ls) e = let two = both (p l) (list_all p ls) e in all_true _ _ two.0 (free-back p ls two.1)
  where
    both : (a b : Bool) → (a && b) ≡ true → (a ≡ true) × (b ≡ true)
    both true b e = (refl, e)
    both false b e = absurd cc

path-of : (g : LinkRow) (gs : List LinkRow) → list_any (same_link g) gs ≡ true → list_any (is_at g.path) (map (λ l. l.path) gs) ≡ true
path-of g [] e = absurd cc
path-of g (x ∷ xs) e = by (is_at (link_key g.link) (link_key x.link)) (is_at g.path x.path) (same_options g.options x.options) (list_any (same_link g) xs) (path-of g xs) e
  where
    by : (a b c d : Bool) → (d ≡ true → list_any (is_at g.path) (map (λ (l : LinkRow). l.path) xs) ≡ true) → ((a && b && c) || d) ≡ true → (b || list_any (is_at g.path) (map (λ (l : LinkRow). l.path) xs)) ≡ true
    by a true c d rest e = refl
    by true false c d rest e = rest e
    by false false c d rest e = rest e

path-back : (p : List ℕ) (ls : List LinkRow) → list_any (λ u. is_at p u.link.path) (map (taken_by false) ls) ≡ true → list_any (is_at p) (map (λ l. l.path) ls) ≡ true
path-back p [] e = e
path-back p (l ∷ ls) e = by (is_at p l.path) (path-back p ls) e
  where
    by : (b : Bool) → (list_any (λ u. is_at p u.link.path) (map (taken_by false) ls) ≡ true → list_any (is_at p) (map (λ (x : LinkRow). x.path) ls) ≡ true) → (b || list_any (λ u. is_at p u.link.path) (map (taken_by false) ls)) ≡ true → (b || list_any (is_at p) (map (λ (x : LinkRow). x.path) ls)) ≡ true
    by true rest e = refl
    by false rest e = rest e

pub gives-path : (m : Moved) (g : LinkRow) → list_any (same_link g) m.gives ≡ true → has_path m g.path ≡ true
gives-path m g e = any-append (is_at g.path) (map (λ l. l.path) m.gives) (map (λ l. l.path) m.takes) ∙ or-left _ _ (path-of g m.gives e)

takes-path : (m : Moved) (p : List ℕ) → list_any (λ u. is_at p u.link.path) (map (taken_by false) m.takes) ≡ true → has_path m p ≡ true
takes-path m p e = any-append (is_at p) (map (λ l. l.path) m.gives) (map (λ l. l.path) m.takes) ∙ or-right (list_any (is_at p) (map (λ l. l.path) m.gives)) _ (path-back p m.takes e)

not-doomed : (b : Bool) (why : Refusal) (later : Option Refusal) → or_else (cond b (Some why) None) later ≡ None → b ≡ false
not-doomed true why later e = absurd cc
not-doomed false why later e = refl

module _ (f : Folds) (s : State) (follows : Follows f s) (tx : ℕ) (t : Txn) (at : maps.get s.txs tx ≡ Some t) where
  pub works-are : (w : Work) → work_of s t ≡ w → (core_of s).works tx ≡ Some w
  works-are w is = ap (work_at s) at ∙ ap (λ (x : Work). Some x) is

  drawn-here : (ls : List LinkRow) → AreDrawn s.rows_opening ls → AreDrawn f.rows.opening ls
  drawn-here ls drawn = subst (λ (n : ℕ). AreDrawn n ls) (sym follows.joint.rows_opening) drawn

  -- what a transaction in a phase has
  active-work : t.phase ≡ phases.Active → is_doomed s t ≡ false → work_of s t ≡ work_by phases.Active (moved_of t)
  active-work is live = λ i. work_by (is i) (claimed_by (live i) (moved_of t))

  no-moves : has_links (moved_of t) ≡ false → (b : Bool) → claimed_by b (moved_of t) ≡ moved_of t
  no-moves none true = let two = no-links (moved_of t) none in λ i. record { gives = sym two.0 i; takes = sym two.1 i; fill = false }
  no-moves none false = refl

  empty-work : t.phase ≡ phases.Active → has_links (moved_of t) ≡ false → work_of s t ≡ work_by phases.Active (moved_of t)
  empty-work is none = λ i. work_by (is i) (no-moves none (is_doomed s t) i)

  pub prepared-work : t.phase ≡ phases.Prepared → work_of s t ≡ work_by phases.Prepared (moved_of t)
  prepared-work is = ap (λ (p : Phase). work_by p (claimed_by (is_active p && differs t.seen s.links_opening) (moved_of t))) is

  pub decided-work : t.phase ≡ phases.Decided → work_of s t ≡ work_by phases.Decided (moved_of t)
  decided-work is = ap (λ (p : Phase). work_by p (claimed_by (is_active p && differs t.seen s.links_opening) (moved_of t))) is

  prepared-leads : AreClaimed s → t.phase ≡ phases.Active → (o : Option Refusal) → prepare_refusal s t ≡ o → Leads f (when (not (is_refused (voted s tx t o).0)) (prepared tx (moved_of t))) (voted s tx t o).1
  prepared-leads claims is (Some why) e = stays f s follows
  prepared-leads claims is None e = by (has_links (moved_of t)) refl
    where
      m : Moved
      m = moved_of t

      by : (b : Bool) → has_links (moved_of t) ≡ b → Leads f (when b (in_links (links_records.Prepared tx (moved_of t).gives (map (taken_by (moved_of t).fill) (moved_of t).takes)) ∷ [])) (with_txn s tx (with_phase t phases.Prepared))
      by true has =
          let none : or_else (doomed s t) (files_refusal s (moved_of t).takes) ≡ None = sym (ap (λ b. cond b (or_else (doomed s t) (files_refusal s (moved_of t).takes)) None) has) ∙ e in
          let live : is_doomed s t ≡ false = not-doomed (is_doomed s t) _ (files_refusal s (moved_of t).takes) none in
          let work : work_of s t ≡ work_by phases.Active (moved_of t) = active-work is live in
          let claim = claims tx t at (ap is_active is) live in
          let stands : IsClaim (core_of s) (moved_of t) (map (taken_by false) (moved_of t).takes) = record {
            given = claim.given;
            free = free-back (λ l. is_free (on (links (tables_of s)) l.path) (given_on (moved_of t).gives l.path)) (moved_of t).takes claim.free;
            fills = no-fills (moved_of t).takes;
            is = λ i. record { gives = (moved_of t).gives; takes = links-back (moved_of t).takes i; fill = no-fill (moved_of t).takes i };
          } in
          record {
            later = with_table f (maps.insert f.links.table tx (branch (moved_of t) branch_phases.Prepared));
            taken = ap (with_links f) (prepared-accepted f (core_of s) follows.joint tx (work_by phases.Active (moved_of t)) (works-are (work_by phases.Active (moved_of t)) work) refl (map (taken_by false) (moved_of t).takes) stands
                (λ g given. gives-path (moved_of t) g given) (λ u taken. takes-path (moved_of t) u.link.path taken));
            follows = record {
              joint = state-prepared f s follows.joint tx t at work has (drawn-here (moved_of t).gives claim.drawn.0) (drawn-here (moved_of t).takes claim.drawn.1);
              uncut = uncut-put f.links.table tx (branch (moved_of t) branch_phases.Prepared) refl follows.uncut;
            };
          }
      by false none = record { later = f; taken = refl; follows = record { joint = state-voted f s follows.joint tx t at (empty-work is none) none; uncut = follows.uncut } }

  -- ROLLBACK, and Decide with Conflict
  abbrev gone : maps.FinMap nat_cmp ℕ → State
  gone sessions = record s { txs = maps.remove s.txs tx; sessions = sessions }

  dropped : (w : Work) → work_of s t ≡ w → decided_work (Some w) ≡ None → commit_of tx f.rows.commits ≡ None → maps.get f.links.table tx ≡ None → (sessions : maps.FinMap nat_cmp ℕ) → Leads f [] (gone sessions)
  dropped w is undecided no_commit no_branch sessions =
      let joint : Joint f (core_of (without_txn s tx)) = subst (Joint f) (sym (gone-core s tx))
      (joint-dropped f (core_of s) follows.joint tx w (works-are w is) (ap decided_work (works-are w is) ∙ undecided) no_commit no_branch) in
      record { later = f; taken = refl; follows = record { joint = joint; uncut = follows.uncut } }

  active-agrees : (w : Work) → work_of s t ≡ w → AgreesAt w.stage w (commit_of tx f.rows.commits) (maps.get f.links.table tx)
  active-agrees w is = agrees-of f (core_of s) follows.joint tx w (works-are w is)

  pub active-drops : t.phase ≡ phases.Active → (sessions : maps.FinMap nat_cmp ℕ) → Leads f [] (gone sessions)
  active-drops is sessions =
      let w : Work = work_by phases.Active (claimed_by (is_doomed s t) (moved_of t)) in
      let same : work_of s t ≡ work_by phases.Active (claimed_by (is_doomed s t) (moved_of t)) = ap (λ (p : Phase). work_by p (claimed_by (is_doomed s t) (moved_of t))) is in
      let agrees : (commit_of tx f.rows.commits ≡ None) × (maps.get f.links.table tx ≡ None) = active-agrees (work_by phases.Active (claimed_by (is_doomed s t) (moved_of t))) same in
      dropped (work_by phases.Active (claimed_by (is_doomed s t) (moved_of t))) same refl agrees.0 agrees.1 sessions

  pub prepared-agrees : t.phase ≡ phases.Prepared → (commit_of tx f.rows.commits ≡ None) × (maps.get f.links.table tx ≡ branch_for (work_by phases.Prepared (moved_of t)) branch_phases.Prepared)
  prepared-agrees is = active-agrees (work_by phases.Prepared (moved_of t)) (prepared-work is)

  -- a prepared one that moves nothing is dropped and leaves no record
  pub plain-drops : t.phase ≡ phases.Prepared → has_links (moved_of t) ≡ false → (sessions : maps.FinMap nat_cmp ℕ) → Leads f [] (gone sessions)
  plain-drops is none sessions =
      let agrees = prepared-agrees is in
      dropped (work_by phases.Prepared (moved_of t)) (prepared-work is) refl agrees.0 (agrees.1 ∙ ap (λ b. cond b (Some (branch (moved_of t) branch_phases.Prepared)) None) none) sessions

  pub prepared-aborts : t.phase ≡ phases.Prepared → (sessions : maps.FinMap nat_cmp ℕ) → Leads f (aborted tx (moved_of t)) (gone sessions)
  prepared-aborts is sessions = by (has_links (moved_of t)) refl
    where
      agrees : (commit_of tx f.rows.commits ≡ None) × (maps.get f.links.table tx ≡ branch_for (work_by phases.Prepared (moved_of t)) branch_phases.Prepared)
      agrees = prepared-agrees is

      by : (b : Bool) → has_links (moved_of t) ≡ b → Leads f (when b (in_links (links_records.Aborted tx) ∷ [])) (gone sessions)
      by true has = record {
        later = with_table f (maps.insert f.links.table tx (branch (moved_of t) branch_phases.Aborted));
        taken = ap (λ (o : Option Branch). with_links f (moves_on branch_phases.Prepared branch_phases.Aborted f.links tx o)) (agrees.1 ∙ ap (λ b. cond b (Some (branch (moved_of t) branch_phases.Prepared)) None) has);
        follows = record {
          joint = state-aborted f s follows.joint tx t at (prepared-work is) has;
          uncut = uncut-put f.links.table tx (branch (moved_of t) branch_phases.Aborted) refl follows.uncut;
        };
      }
      by false none = plain-drops is none sessions

  -- FINISH
  same-records : finish_records tx branch_phases.Prepared (moved_of t) (kept_in s) ≡ finish_records tx branch_phases.Prepared (moved_of t) (kept_of f)
  same-records = λ i. finish_records tx branch_phases.Prepared (moved_of t) (record { files = sym follows.joint.files i; copies = sym follows.joint.copies i; held = f.links.held })

  abbrev over : maps.FinMap nat_cmp ℕ → State
  over sessions = record (settled_by s t) { txs = maps.remove s.txs tx; sessions = sessions }

  pub decided-finishes : t.phase ≡ phases.Decided → AreNumbered (moved_of t).gives → (sessions : maps.FinMap nat_cmp ℕ) → Leads f (whole_finish tx (moved_of t) (kept_in s)) (over sessions)
  decided-finishes is numbers sessions = by (has_links (moved_of t)) refl
    where
      w : Work
      w = work_by phases.Decided (moved_of t)

      agrees : IsCommitOf (work_by phases.Decided (moved_of t)) (commit_of tx f.rows.commits) × (p : BranchPhase) × (maps.get f.links.table tx ≡ branch_for (work_by phases.Decided (moved_of t)) p) × (is_open p ≡ true)
      agrees = active-agrees (work_by phases.Decided (moved_of t)) (decided-work is)

      whole : has_links (moved_of t) ≡ true → (p : BranchPhase) → maps.get f.links.table tx ≡ branch_for (work_by phases.Decided (moved_of t)) p → is_open p ≡ true → maps.get f.links.table tx ≡ Some (branch (moved_of t) branch_phases.Prepared)
      whole has branch_phases.Prepared there open_at = there ∙ ap (λ b. cond b (Some (branch (moved_of t) branch_phases.Prepared)) None) has
      whole has branch_phases.Committed there open_at = absurd (false_true (sym (follows.uncut tx (branch (moved_of t) branch_phases.Committed) (there ∙ ap (λ b. cond b (Some (branch (moved_of t) branch_phases.Committed)) None) has))))
      whole has branch_phases.Done there open_at = absurd (false_true open_at)
      whole has branch_phases.Aborted there open_at = absurd (false_true open_at)

      by : (b : Bool) → has_links (moved_of t) ≡ b → Leads f (when b (finish_records tx branch_phases.Prepared (moved_of t) (kept_in s))) (over sessions)
      by true has =
          let two = finish-joint f (core_of s) tx (work_by phases.Decided (moved_of t)) follows.joint (works-are (work_by phases.Decided (moved_of t)) (decided-work is)) refl has (whole has agrees.1 agrees.2 agrees.3) numbers in
          record {
            later = with_finish f tx (moved_of t);
            taken = ap (folds_on (Some f)) same-records ∙ two.0;
            follows = record {
              joint = state-finished f s follows.joint tx t at (decided-work is) has;
              uncut = uncut-put f.links.table tx (branch (moved_of t) branch_phases.Done) refl follows.uncut;
            };
          }
      by false none =
          let same : core_of (over sessions) ≡ core_with (core_of s) (with_work (core_of s).works tx None) (number_of s) = λ i. record {
            commits = s.commits;
            files = (settle-empty (moved_of t) (kept_in s) none i).files;
            copies = (settle-empty (moved_of t) (kept_in s) none i).copies;
            backups = s.backups;
            rows_opening = s.rows_opening;
            links_opening = s.links_opening;
            works = works-remove s tx i;
            drawn = number_of s;
          } in
          record {
            later = f;
            taken = refl;
            follows = record {
              joint = subst (Joint f) (sym same) (joint-ended f (core_of s) follows.joint tx (work_by phases.Decided (moved_of t)) (works-are (work_by phases.Decided (moved_of t)) (decided-work is)) refl none);
              uncut = follows.uncut;
            };
          }

  -- each phase

  pub on-prepare : AreClaimed s → (session : ℕ) (p : Phase) → t.phase ≡ p → Leads f (txn_writes s (steps.Prepare session) tx t p (on_txn s (steps.Prepare session) tx t p).0) (on_txn s (steps.Prepare session) tx t p).1
  on-prepare claims session phases.Active is = prepared-leads claims is (prepare_refusal s t) refl
  on-prepare claims session phases.Prepared is = stays f s follows
  on-prepare claims session phases.Decided is = stays f s follows
  on-prepare claims session phases.Finished is = stays f s follows
  on-prepare claims session phases.Dropped is = stays f s follows

  pub on-finish : HaveNumbers s → (session : ℕ) (p : Phase) → t.phase ≡ p → Leads f (txn_writes s (steps.Finish session) tx t p (on_txn s (steps.Finish session) tx t p).0) (on_txn s (steps.Finish session) tx t p).1
  on-finish numbers session phases.Active is = stays f s follows
  on-finish numbers session phases.Prepared is = stays f s follows
  on-finish numbers session phases.Decided is = decided-finishes is (numbers tx t at) (maps.remove s.sessions session)
  on-finish numbers session phases.Finished is = stays f s follows
  on-finish numbers session phases.Dropped is = stays f s follows

  pub on-rollback : (session : ℕ) (p : Phase) → t.phase ≡ p → Leads f (txn_writes s (steps.Rollback session) tx t p (on_txn s (steps.Rollback session) tx t p).0) (on_txn s (steps.Rollback session) tx t p).1
  on-rollback session phases.Active is = active-drops is (maps.remove s.sessions session)
  on-rollback session phases.Prepared is = prepared-aborts is (maps.remove s.sessions session)
  on-rollback session phases.Decided is = stays f s follows
  on-rollback session phases.Finished is = stays f s follows
  on-rollback session phases.Dropped is = stays f s follows

pub leads-prepare : (f : Folds) (s : State) (session : ℕ) → Follows f s → AreClaimed s → Leads f (writes s (steps.Prepare session)) (step s (steps.Prepare session)).1
unfolding step writes
leads-prepare f s session follows claims = by (txn_of s session) refl
  where
    by : (o : Option (ℕ × Txn)) → txn_of s session ≡ o → Leads f (session_writes s (steps.Prepare session) (on_session s (steps.Prepare session) o).0 o) (on_session s (steps.Prepare session) o).1
    by None e = stays f s follows
    by (Some x) e = on-prepare f s follows x.0 x.1 (txn-there s (maps.get s.sessions session) x e).0 claims session x.1.phase refl

pub leads-finish : (f : Folds) (s : State) (session : ℕ) → Follows f s → HaveNumbers s → Leads f (writes s (steps.Finish session)) (step s (steps.Finish session)).1
unfolding step writes
leads-finish f s session follows numbers = by (txn_of s session) refl
  where
    by : (o : Option (ℕ × Txn)) → txn_of s session ≡ o → Leads f (session_writes s (steps.Finish session) (on_session s (steps.Finish session) o).0 o) (on_session s (steps.Finish session) o).1
    by None e = stays f s follows
    by (Some x) e = on-finish f s follows x.0 x.1 (txn-there s (maps.get s.sessions session) x e).0 numbers session x.1.phase refl

pub leads-rollback : (f : Folds) (s : State) (session : ℕ) → Follows f s → Leads f (writes s (steps.Rollback session)) (step s (steps.Rollback session)).1
unfolding step writes
leads-rollback f s session follows = by (txn_of s session) refl
  where
    by : (o : Option (ℕ × Txn)) → txn_of s session ≡ o → Leads f (session_writes s (steps.Rollback session) (on_session s (steps.Rollback session) o).0 o) (on_session s (steps.Rollback session) o).1
    by None e = stays f s follows
    by (Some x) e = on-rollback f s follows x.0 x.1 (txn-there s (maps.get s.sessions session) x e).0 session x.1.phase refl

-- TICK, and stops

pub leads-tick : (f : Folds) (s : State) (n : ℕ) → Follows f s → Leads f (writes s (steps.Tick n)) (step s (steps.Tick n)).1
unfolding step writes
leads-tick f s n follows = record { later = f; taken = refl; follows = record { joint = follows.joint; uncut = follows.uncut } }

pub leads-manager : (f : Folds) (s : State) → Follows f s → HasClaims s → Leads f (writes s steps.CrashManager) (step s steps.CrashManager).1
unfolding step writes
leads-manager f s follows claims = record {
  later = with_links_opening f;
  taken = ap (λ (n : ℕ). with_links f (links_step f.links (links_records.Opening (n + 1)))) (sym follows.joint.links_opening) ∙ ap (with_links f) (links-opened f.links);
  follows = record { joint = state-manager f s claims follows.joint; uncut = follows.uncut };
}

pub leads-database : (f : Folds) (s : State) → Follows f s → HasClaims s → Leads f (writes s steps.CrashDatabase) (step s steps.CrashDatabase).1
unfolding step writes
leads-database f s follows claims = record {
  later = with_rows_opening f;
  taken = ap (λ (n : ℕ). with_rows f (rows_step f.rows (rows_records.Opening (n + 1)))) (sym follows.joint.rows_opening) ∙ ap (with_rows f) (rows-opened f.rows);
  follows = record { joint = state-database f s claims.live follows.joint; uncut = follows.uncut };
}

-- BACKUP

pub past-last : (t : Tables) (cs : List Commit) → past t cs (length cs) ≡ Some (tables_after t cs)
past-last t [] = refl
past-last t (c ∷ cs) = past-last c.tables cs

pub leads-backup : (f : Folds) (s : State) → Follows f s → AreNamed (tables_of s) → AreRising (tables_of s) → Leads f (writes s steps.Backup) (step s steps.Backup).1
unfolding step writes
leads-backup f s follows named rise = by (unfinished s)
  where
    b : Backup
    b = record { commit = length s.commits; tables = tables_of s }

    made : Leads f (in_backups (backup_records.Backup (length s.backups + 1) (length s.commits) (map image_of (tables_of s))) ∷ []) (record s { backups = s.backups ++ record { commit = length s.commits; tables = tables_of s } ∷ [] })
    made = record {
      later = record { rows = f.rows; links = f.links; files = f.files; copies = f.copies; backups = f.backups ++ record { commit = length s.commits; tables = tables_of s } ∷ [] };
      taken = ap (λ (bs : List Backup). with_backups f (backups_step f.backups (backup_records.Backup (length bs + 1) (length s.commits) (map image_of (tables_of s))))) (sym follows.joint.backups)
          ∙ ap (with_backups f) (backup-taken f.backups (length s.commits) (tables_of s) named rise);
      follows = record {
        joint = joint-backed_up f (core_of s) follows.joint (record { commit = length s.commits; tables = tables_of s })
            (whole-backup (core_stored (core_of s)) (record { commit = length s.commits; tables = tables_of s }) follows.joint.whole (past-last [] s.commits));
        uncut = follows.uncut;
      };
    }

    at : (ls : List LinkRow) → Leads f (backup_writes s (back_up_at s ls).0) (back_up_at s ls).1
    at [] = made
    at (l ∷ ls) = stays f s follows

    by : (o : Option (ℕ × Txn)) → Leads f (backup_writes s (back_up s o).0) (back_up s o).1
    by None = at (pending s)
    by (Some e) = stays f s follows
