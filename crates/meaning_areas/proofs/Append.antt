-- THE LAW OF ONE APPEND: lists that stand for something stand for the same with the next record of a Finish, or with an Aborted.
use Rattle.std.proofs.Common.{◌≡◌, ◌≢◌, ⊎_elim, ℕ, List, Bool, true, false, not, cond, ◌&&◌, Option, Some, None, is_some, refl, sym, ◌∙◌, ap, subst}
use Rattle.std.proofs.lemmas.Bool.{cases_eq}
use Rattle.std.specs.FinMap as maps
use Rattle.dl_base.specs.declared.value.LinkRow.{LinkRow}
use Rattle.dl_codec.specs.declared.links.BranchPhase.{BranchPhase}
use Rattle.dl_codec.specs.declared.links.BranchPhase.TheVariants.{Prepared, Committed, Done, Aborted}
use Rattle.dl_codec.specs.declared.links.LinksRecord.TheVariants as links_records
use Rattle.dl_codec.specs.declared.rows.RowsRecord.TheVariants as rows_records
use Rattle.meaning_files.specs.Files.{Files}
use Rattle.meaning_settling.specs.Apart.{IsReady, IsPart}
use Rattle.meaning_settling.specs.Keyed.{Keyed, over}
use Rattle.meaning_settling.specs.Settling.{Copies, Moved, Kept, settle_one, paths_of, held_after, copy_after, file_after, copies_after}
use Rattle.meaning_settling.proofs.KeyedLaws.{get-over}
use Rattle.meaning_settling.proofs.PartLaws.{whole-settled, part-settled, ready-part, ready-other}
use Rattle.meaning_settling.proofs.SettlingLaws.{held-again, held-off}
use Rattle.meaning_settling.proofs.SettledLaws.{settled-tests, settled-part, settled-less}
use Rattle.meaning_areas.specs.Branches.{Branch, branch, is_phase, moves_on, done_on}
use Rattle.meaning_areas.specs.Commits.{Commit, commit_of, has_number, with_ended, ends_on}
use Rattle.meaning_areas.specs.Lists.{Folds, in_rows, in_links, with_links, with_rows}
use Rattle.meaning_areas.specs.Stands.{is_open, is_past, open_branch, open_in, txs_of, kept_of, AreDrawn, Stored, stored_with, settled_of, stored_of, IsBranch, Compares, IsStand}
use Rattle.meaning_areas.proofs.OwnNumbers.{committed-apart}
use Rattle.meaning_areas.proofs.Tables.{get-here, get-there, some_same, not_none, some_none, commit-in, in-commit, has-push}
use Rattle.meaning_areas.specs.Moving.{with_kept, with_phase, Stays}

false_true : false ≡ true → ⊥
false_true e = cc

pub same_moved : (m n : Moved) (p q : BranchPhase) → Some (branch m p) ≡ Some (branch n q) → m ≡ n
same_moved m n p q e = ap (λ (b : Branch). b.moved) (some_same (branch m p) (branch n q) e)

pub same_phase : (m n : Moved) (p q : BranchPhase) → Some (branch m p) ≡ Some (branch n q) → p ≡ q
same_phase m n p q e = ap (λ (b : Branch). b.phase) (some_same (branch m p) (branch n q) e)

-- lists with the same table
pub stored-same : (f g : Folds) → g.rows ≡ f.rows → g.backups ≡ f.backups → g.links.opening ≡ f.links.opening → settled_of g ≡ settled_of f → stored_of g ≡ stored_of f
stored-same f g rows backups opening same = λ i. stored_with (rows i).commits (backups i) (rows i).opening (opening i) (same i)

pub compares-kept : (f : Folds) (files : Files) (copies : Copies) → Compares f → settled_of (with_kept f files copies) ≡ settled_of f
    → ((tx : ℕ) (m : Moved) → is_some (commit_of tx f.rows.commits) ≡ true → open_in f.links tx ≡ Some m → IsReady m (kept_of (with_kept f files copies))) → Compares (with_kept f files copies)
compares-kept f files copies c same ready = record {
  distinct = c.distinct;
  moved = c.moved;
  branches = c.branches;
  decided = c.decided;
  ended = c.ended;
  apart = c.apart;
  ready = ready;
  held = λ p. ap (λ (k : Kept). maps.get k.held p) same ∙ c.held p;
  numbers = c.numbers;
  drawn_commits = c.drawn_commits;
  drawn_branches = c.drawn_branches;
}

-- lists in which one branch is in another phase
module _ (f : Folds) (c : Compares f) (tx : ℕ) (m : Moved) (from to : BranchPhase) (at : maps.get f.links.table tx ≡ Some (branch m from)) (held : Keyed LinkRow) where
  later : Folds
  later = with_phase f tx m to held

  pub open-there : (t : ℕ) → t ≢ tx → open_in f.links t ≡ open_in (with_phase f tx m to held).links t
  open-there t other = ap open_branch (sym (get-there f.links.table tx (branch m to) t other))

  pub open-here : open_in (with_phase f tx m to held).links tx ≡ open_branch (Some (branch m to))
  open-here = ap open_branch (get-here f.links.table tx (branch m to))

  pub open-was : open_in f.links tx ≡ open_branch (Some (branch m from))
  open-was = ap open_branch at

  pub compares-moved : (is_past to ≡ true → is_some (commit_of tx f.rows.commits) ≡ true) → (is_phase to Aborted ≡ true → commit_of tx f.rows.commits ≡ None) → is_phase from Done ≡ false
      → ((t : ℕ) (a : Moved) → open_in (with_phase f tx m to held).links t ≡ Some a → open_in f.links t ≡ Some a)
      → settled_of (with_phase f tx m to held) ≡ settled_of f → Compares (with_phase f tx m to held)
  compares-moved past dropped not_done fewer same = record {
    distinct = c.distinct;
    moved = c.moved;
    branches = λ q d is. ⊎_elim
        (λ (e : q ≡ tx). subst (λ (t : ℕ). IsBranch d.branch d.gives d.takes (maps.get (with_phase f tx m to held).links.table t)) (sym e)
        (subst (λ (o : Option Branch). IsBranch d.branch d.gives d.takes o) (sym (get-here f.links.table tx (branch m to)))
        (moved d.branch d.gives d.takes (λ none. not_none d _ is (ap (λ (t : ℕ). commit_of t f.rows.commits) e ∙ dropped none))
        (subst (λ (o : Option Branch). IsBranch d.branch d.gives d.takes o) at (subst (λ (t : ℕ). IsBranch d.branch d.gives d.takes (maps.get f.links.table t)) e (c.branches q d is))))))
        (λ (other : q ≢ tx). subst (λ (o : Option Branch). IsBranch d.branch d.gives d.takes o) (sym (get-there f.links.table tx (branch m to) q other)) (c.branches q d is))
        (cases_eq q tx);
    decided = λ q b is gone. ⊎_elim
        (λ (e : q ≡ tx). ap (λ (t : ℕ). is_some (commit_of t f.rows.commits)) e
        ∙ past (ap (λ (x : Branch). is_past x.phase) (some_same (branch m to) b (sym (get-here f.links.table tx (branch m to)) ∙ ap (maps.get (with_phase f tx m to held).links.table) (sym e) ∙ is)) ∙ gone))
        (λ (other : q ≢ tx). c.decided q b (sym (get-there f.links.table tx (branch m to) q other) ∙ is) gone)
        (cases_eq q tx);
    ended = λ q is. ⊎_elim
        (λ (e : q ≡ tx).
        let was = c.ended q is in
        absurd (false_true (sym not_done ∙ ap (λ (x : BranchPhase). is_phase x Done) (same_phase m was.0 from Done (sym at ∙ ap (maps.get f.links.table) (sym e) ∙ was.1)))))
        (λ (other : q ≢ tx). let was = c.ended q is in (was.0, get-there f.links.table tx (branch m to) q other ∙ was.1))
        (cases_eq q tx);
    apart = λ t u other a b x y. c.apart t u other a b (fewer t a x) (fewer u b y);
    ready = λ t a is x. c.ready t a is (fewer t a x);
    held = λ p. ap (λ (k : Kept). maps.get k.held p) same ∙ c.held p;
    numbers = λ q late. ⊎_elim
        (λ (e : q ≡ tx). absurd (not_none (branch m from) _ (ap (maps.get f.links.table) e ∙ at) (c.numbers q late).1))
        (λ (other : q ≢ tx). let was = c.numbers q late in (was.0, get-there f.links.table tx (branch m to) q other ∙ was.1))
        (cases_eq q tx);
    drawn_commits = c.drawn_commits;
    drawn_branches = λ q b is. ⊎_elim
        (λ (e : q ≡ tx).
        let same_b : branch m to ≡ b = some_same (branch m to) b (sym (get-here f.links.table tx (branch m to)) ∙ ap (maps.get (with_phase f tx m to held).links.table) (sym e) ∙ is) in
        let was = c.drawn_branches tx (branch m from) at in
        (let P : Branch → Type 0 = λ x. AreDrawn f.rows.opening x.moved.gives × AreDrawn f.rows.opening x.moved.takes in subst P same_b was))
        (λ (other : q ≢ tx). c.drawn_branches q b (sym (get-there f.links.table tx (branch m to) q other) ∙ is))
        (cases_eq q tx);
  }
    where
      moved : (b : Bool) (gives takes : List LinkRow) → (is_phase to Aborted ≡ true → ⊥) → IsBranch b gives takes (Some (branch m from)) → IsBranch b gives takes (Some (branch m to))
      moved true gives takes kept is = (is.0, to, ap (λ (x : Moved). Some (branch x to)) (same_moved m _ from is.1 is.2), not_aborted (is_phase to Aborted) refl)
        where
          not_aborted : (b : Bool) → is_phase to Aborted ≡ b → is_phase to Aborted ≡ false
          not_aborted true e = absurd (kept e)
          not_aborted false e = e
      moved false gives takes kept is = absurd (not_none (branch m from) _ refl is.0)

-- the five laws

module _ (f : Folds) (s : Stored) (stand : IsStand f s) (tx : ℕ) (m : Moved) where
  stands : (later : Folds) → Compares later → later.rows.commits ≡ f.rows.commits → later.rows.opening ≡ f.rows.opening → later.backups ≡ f.backups → later.links.opening ≡ f.links.opening → settled_of later ≡ settled_of f → IsStand later s
  stands later compares commits opening backups links same = record {
    compares = compares;
    whole = stand.whole;
    is = stand.is ∙ sym (λ i. stored_with (commits i) (backups i) (opening i) (links i) (same i));
  }

  -- Links Committed
  pub append-committed : is_some (commit_of tx f.rows.commits) ≡ true → maps.get f.links.table tx ≡ Some (branch m Prepared) → Stays f (with_phase f tx m Committed f.links.held) (in_links (links_records.Committed tx)) s
  append-committed committed at =
      let there : (t : ℕ) → open_in (with_phase f tx m Committed f.links.held).links t ≡ open_in f.links t = λ t. ⊎_elim
      (λ (e : t ≡ tx). ap (open_in (with_phase f tx m Committed f.links.held).links) e ∙ open-here f stand.compares tx m Prepared Committed at f.links.held ∙ sym (ap (open_in f.links) e ∙ open-was f stand.compares tx m Prepared Committed at f.links.held))
      (λ (other : t ≢ tx). sym (open-there f stand.compares tx m Prepared Committed at f.links.held t other))
      (cases_eq t tx) in
      let same : settled_of (with_phase f tx m Committed f.links.held) ≡ settled_of f = settled-tests (open_in (with_phase f tx m Committed f.links.held).links) (open_in f.links) (txs_of f.rows.commits) (kept_of f) (λ t is. there t) in
      record {
        accepted = ap (λ (o : Option Branch). with_links f (moves_on Prepared Committed f.links tx o)) at;
        stand = stands (with_phase f tx m Committed f.links.held)
            (compares-moved f stand.compares tx m Prepared Committed at f.links.held (λ e. committed) (λ e. absurd (false_true e)) refl (λ t a is. sym (there t) ∙ is) same)
            refl refl refl refl same;
      }

  -- some copies, or the files
  pub append-part : (p : BranchPhase) (copies : List ℕ → Bool) (files : Bool) (later_files : Files) (later_copies : Copies)
      → is_some (commit_of tx f.rows.commits) ≡ true → maps.get f.links.table tx ≡ Some (branch m p) → is_open p ≡ true
      → IsPart copies files false m (kept_of f) (kept_of (with_kept f later_files later_copies)) → IsStand (with_kept f later_files later_copies) s
  append-part p copies files later_files later_copies committed at still part =
      let open_tx : open_in f.links tx ≡ Some m = ap open_branch at ∙ ap (λ b. cond b (Some m) None) still in
      let ready = stand.compares.ready tx m committed open_tx in
      let same : settled_of (with_kept f later_files later_copies) ≡ settled_of f =
      settled-part (open_in f.links) (txs_of f.rows.commits) copies files false tx m (kept_of f) (kept_of (with_kept f later_files later_copies)) (committed-apart f s stand) open_tx (commit-in tx f.rows.commits committed) ready part in
      stands (with_kept f later_files later_copies)
      (compares-kept f later_files later_copies stand.compares same (λ t a is x. ⊎_elim
      (λ (e : t ≡ tx). (let P : Moved → Type 0 = λ y. IsReady y (kept_of (with_kept f later_files later_copies)) in subst P (some_same m a (sym open_tx ∙ ap (open_in f.links) (sym e) ∙ x)) (ready-part copies files false m (kept_of f) (kept_of (with_kept f later_files later_copies)) part ready)))
      (λ (other : t ≢ tx). ready-other copies files false m (kept_of f) (kept_of (with_kept f later_files later_copies)) part a (committed-apart f s stand t tx (commit-in t f.rows.commits is) (commit-in tx f.rows.commits committed) other a m x open_tx) (stand.compares.ready t a is x))
      (cases_eq t tx)))
      refl refl refl refl same

  -- Links Done, where all effects are there
  pub append-done : is_some (commit_of tx f.rows.commits) ≡ true → maps.get f.links.table tx ≡ Some (branch m Committed)
      → ((n : List ℕ) → maps.get f.copies n ≡ copy_after m f.files n (maps.get f.copies n))
      → ((p : List ℕ) → maps.get f.files p ≡ file_after m (copies_after m (kept_of f)) p (maps.get f.files p))
      → Stays f (with_phase f tx m Done (over (paths_of m) (held_after m) f.links.held)) (in_links (links_records.Done tx)) s
  append-done committed at copies files =
      let held : Keyed LinkRow = over (paths_of m) (held_after m) f.links.held in
      let k : Kept = record { files = f.files; copies = f.copies; held = held } in
      let part : IsPart (λ n. true) true true m (kept_of f) k = record {
        at_copies = copies;
        at_files = files;
        at_held = λ p. get-over (held_after m) (held-again m) (paths_of m) f.links.held p (λ e o. held-off m p o e);
        order = λ e n. refl;
      } in
      let open_tx : open_in f.links tx ≡ Some m = ap open_branch at in
      let whole : k ≡ settle_one m (kept_of f) = whole-settled m (kept_of f) k part in
      let ready = stand.compares.ready tx m committed open_tx in
      let done : settle_one m k ≡ k = part-settled m (λ n. true) true true (kept_of f) k ready part ∙ sym whole in
      let none : open_in (with_phase f tx m Done held).links tx ≡ None = open-here f stand.compares tx m Committed Done at held in
      let there : (t : ℕ) → t ≢ tx → open_in f.links t ≡ open_in (with_phase f tx m Done held).links t = open-there f stand.compares tx m Committed Done at held in
      let same : settled_of (with_phase f tx m Done held) ≡ settled_of f =
      sym (settled-less (open_in f.links) (open_in (with_phase f tx m Done held).links) (txs_of f.rows.commits) tx m k (λ t a among other x. committed-apart f s stand t tx among (commit-in tx f.rows.commits committed) other a m x open_tx) open_tx there none done)
      ∙ settled-part (open_in f.links) (txs_of f.rows.commits) (λ n. true) true true tx m (kept_of f) k (committed-apart f s stand) open_tx (commit-in tx f.rows.commits committed) ready part in
      record {
        accepted = ap (λ (o : Option Branch). with_links f (done_on f.links tx o)) at;
        stand = stands (with_phase f tx m Done held)
            (compares-moved f stand.compares tx m Committed Done at held (λ e. committed) (λ e. absurd (false_true e)) refl (λ t a is. ⊎_elim
            (λ (e : t ≡ tx). absurd (not_none a _ is (ap (open_in (with_phase f tx m Done held).links) e ∙ none)))
            (λ (other : t ≢ tx). there t other ∙ is)
            (cases_eq t tx)) same)
            refl refl refl refl same;
      }

  -- Links Aborted, of a branch without a commit
  pub append-aborted : commit_of tx f.rows.commits ≡ None → maps.get f.links.table tx ≡ Some (branch m Prepared) → Stays f (with_phase f tx m Aborted f.links.held) (in_links (links_records.Aborted tx)) s
  append-aborted none at =
      let there : (t : ℕ) → t ≢ tx → open_in f.links t ≡ open_in (with_phase f tx m Aborted f.links.held).links t = open-there f stand.compares tx m Prepared Aborted at f.links.held in
      let gone : open_in (with_phase f tx m Aborted f.links.held).links tx ≡ None = open-here f stand.compares tx m Prepared Aborted at f.links.held in
      let same : settled_of (with_phase f tx m Aborted f.links.held) ≡ settled_of f = settled-tests (open_in (with_phase f tx m Aborted f.links.held).links) (open_in f.links) (txs_of f.rows.commits) (kept_of f) (λ t is.
      sym (there t (λ (e : t ≡ tx). some_none (commit_of tx f.rows.commits) (ap (λ (x : ℕ). is_some (commit_of x f.rows.commits)) (sym e) ∙ in-commit t f.rows.commits is) none))) in
      record {
        accepted = ap (λ (o : Option Branch). with_links f (moves_on Prepared Aborted f.links tx o)) at;
        stand = stands (with_phase f tx m Aborted f.links.held)
            (compares-moved f stand.compares tx m Prepared Aborted at f.links.held (λ e. absurd (false_true e)) (λ e. none) refl (λ t a is. ⊎_elim
            (λ (e : t ≡ tx). absurd (not_none a _ is (ap (open_in (with_phase f tx m Aborted f.links.held).links) e ∙ gone)))
            (λ (other : t ≢ tx). there t other ∙ is)
            (cases_eq t tx)) same)
            refl refl refl refl same;
      }

  -- Rows Ended
  pub append-ended : (c : Commit) → commit_of tx f.rows.commits ≡ Some c → c.branch ≡ true → maps.get f.links.table tx ≡ Some (branch m Done) → has_number tx f.rows.ended ≡ false
      → Stays f (record { rows = with_ended f.rows tx; links = f.links; files = f.files; copies = f.copies; backups = f.backups }) (in_rows (rows_records.Ended tx)) s
  append-ended c committed has at once = record {
    accepted = ap (λ (o : Option Commit). with_rows f (ends_on f.rows tx o)) committed ∙ ap (λ b. with_rows f (cond (b && not (has_number tx f.rows.ended)) (Some (with_ended f.rows tx)) None)) has
        ∙ ap (λ b. with_rows f (cond (not b) (Some (with_ended f.rows tx)) None)) once;
    stand = record {
      compares = record {
        distinct = stand.compares.distinct;
        moved = stand.compares.moved;
        branches = stand.compares.branches;
        decided = stand.compares.decided;
        ended = λ q is. ⊎_elim (λ was. stand.compares.ended q was) (λ (e : q ≡ tx). (m, ap (maps.get f.links.table) e ∙ at)) (has-push q tx f.rows.ended is);
        apart = stand.compares.apart;
        ready = stand.compares.ready;
        held = stand.compares.held;
        numbers = stand.compares.numbers;
        drawn_commits = stand.compares.drawn_commits;
        drawn_branches = stand.compares.drawn_branches;
      };
      whole = stand.whole;
      is = stand.is;
    };
  }
