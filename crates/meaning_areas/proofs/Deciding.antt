-- Decide, Finish, and what changes files, copies or backups alone, keep the joint invariant.
use Rattle.std.proofs.Common.{◌≡◌, ◌≢◌, inr, ⊎_elim, ℕ, ◌<◌, List, [], ◌∷◌, ◌++◌, Bool, true, false, cond, ◌&&◌, Option, Some, None, is_some, refl, sym, ◌∙◌, ap, subst}
use Rattle.std.proofs.lemmas.Bool.{cases_eq}
use Rattle.std.specs.FinMap as maps
use Rattle.dl_base.specs.declared.value.LinkRow.{LinkRow}
use Rattle.dl_codec.specs.declared.links.BranchPhase.{BranchPhase}
use Rattle.dl_codec.specs.declared.links.BranchPhase.TheVariants.{Prepared, Done}
use Rattle.meaning_files.specs.Files.{Files}
use Rattle.meaning_tables.specs.Links.{links, gives, takes}
use Rattle.meaning_tables.specs.Tables.{Tables}
use Rattle.meaning_settling.specs.Apart.{ShareNoPath, IsReady}
use Rattle.meaning_settling.specs.Settled.{settle_open, settled, IsIn, AreDistinct}
use Rattle.meaning_settling.specs.Settling.{Copies, Moved, Kept, on, held_by, held_after, settle_one}
use Rattle.meaning_settling.proofs.PartLaws.{get-held, settled-whole, ready-other}
use Rattle.meaning_settling.proofs.SettledLaws.{settled-tests, settled-push, settled-front}
use Rattle.meaning_areas.specs.Branches.{Branch, branch}
use Rattle.meaning_areas.specs.Commits.{Commit, HaveMoved, commit_of, tables_after}
use Rattle.meaning_areas.specs.Core.{Stage, prepared, decided, Work, Core, is_decided, decided_work, decided_in, core_kept, core_stored, with_work}
use Rattle.meaning_areas.specs.Lists.{Folds}
use Rattle.meaning_areas.specs.Joint.{branch_for, IsCommitOf, AgreesAt, Agrees, Joint}
use Rattle.meaning_areas.specs.Copies.{Backup}
use Rattle.meaning_areas.specs.Stands.{is_open, txs_of, kept_of, AreDrawn, IsWhole}
use Rattle.meaning_areas.proofs.OwnNumbers.{decided-apart}
use Rattle.meaning_areas.proofs.Tables.{get-here, get-there, some_same, not_none, commit-in, in-commit, commit_of-here, commit_of-there, txs-push, tables-push, distinct-push, commit-push, has-push, some_none}
use Rattle.meaning_areas.proofs.Standing.{same-parts}
use Rattle.meaning_areas.proofs.Steps.{work-here, work-there, works-all, same-held, apart-with, is-drawn, agrees-of}
use Rattle.meaning_areas.specs.Moving.{with_kept, with_decision, with_finish, core_decided, core_finished, core_kept_as}

-- one more commit has what it moved
pub moved-push : (before : Tables) (d : Commit) (cs : List Commit) → HaveMoved before cs → d.gives ≡ gives (tables_after before cs) d.tables → d.takes ≡ takes (tables_after before cs) d.tables → HaveMoved before (cs ++ d ∷ [])
moved-push before d [] moved given taken = (given, taken, tt)
moved-push before d (c ∷ cs) moved given taken = (moved.0, moved.1, moved-push c.tables d cs moved.2 given taken)

-- THE LISTS AFTER A COMMIT, and the state
module _ (f : Folds) (c : Core) (joint : Joint f c) (d : Commit) (w : Work) (is : c.works d.tx ≡ Some w) (was : w.stage ≡ prepared)
    (flag : d.branch ≡ w.branch) (given : d.gives ≡ w.moved.gives) (taken : d.takes ≡ w.moved.takes) where
  at-vote : (commit_of d.tx f.rows.commits ≡ None) × (maps.get f.links.table d.tx ≡ branch_for w Prepared)
  at-vote = let P : Stage → Type 0 = λ s. AgreesAt s w (commit_of d.tx f.rows.commits) (maps.get f.links.table d.tx) in subst P was (agrees-of f c joint d.tx w is)

  later : Core
  later = core_decided c d w

  tests : (t : ℕ) → t ≢ d.tx → decided_in (core_decided c d w) t ≡ decided_in c t
  tests t other = ap decided_work (work-there c.works d.tx (Some (record { stage = decided; branch = w.branch; moved = w.moved })) t other)

  at-tx : decided_in (core_decided c d w) d.tx ≡ cond w.branch (Some w.moved) None
  at-tx = ap decided_work (work-here c.works d.tx (Some (record { stage = decided; branch = w.branch; moved = w.moved })))

  not-yet : IsIn d.tx (txs_of f.rows.commits) → ⊥
  not-yet in_list = some_none (commit_of d.tx f.rows.commits) (in-commit d.tx f.rows.commits in_list) at-vote.0

  pub settled-decided : (k : Kept) → settled (decided_in (core_decided c d w)) (txs_of (f.rows.commits ++ d ∷ [])) k ≡ settle_open (cond w.branch (Some w.moved) None) (settled (decided_in c) (txs_of f.rows.commits) k)
  settled-decided k =
      ap (λ (ts : List ℕ). settled (decided_in (core_decided c d w)) ts k) (txs-push d f.rows.commits)
      ∙ settled-push (decided_in (core_decided c d w)) (txs_of f.rows.commits) d.tx k
      ∙ ap (λ (o : Option Moved). settle_open o (settled (decided_in (core_decided c d w)) (txs_of f.rows.commits) k)) at-tx
      ∙ ap (settle_open (cond w.branch (Some w.moved) None)) (settled-tests (decided_in (core_decided c d w)) (decided_in c) (txs_of f.rows.commits) k (λ t in_list. tests t (λ (e : t ≡ d.tx). not-yet (subst (λ (x : ℕ). IsIn x (txs_of f.rows.commits)) e in_list))))

  pub joint-decided : d.gives ≡ gives (tables_after [] c.commits) d.tables → d.takes ≡ takes (tables_after [] c.commits) d.tables
      → ((p : List ℕ) → on (links d.tables) p ≡ held_after w.moved p (on (links (tables_after [] f.rows.commits)) p)) → IsReady w.moved (kept_of f) → AreDrawn f.rows.opening (links d.tables) → IsWhole (core_stored (core_decided c d w))
      → Joint (with_decision f d) (core_decided c d w)
  joint-decided away added moved ready drawn whole = record {
    commits = ap (λ (cs : List Commit). cs ++ d ∷ []) joint.commits;
    rows_opening = joint.rows_opening;
    links_opening = joint.links_opening;
    files = joint.files;
    copies = joint.copies;
    backups = joint.backups;
    agrees = works-all c.works d.tx (Some (record { stage = decided; branch = w.branch; moved = w.moved })) (λ q x. Agrees x (commit_of q (f.rows.commits ++ d ∷ [])) (maps.get f.links.table q))
        (record { commit = d; at = commit_of-here d f.rows.commits at-vote.0; branch = flag; gives = given; takes = taken }, Prepared, at-vote.1, refl)
        (λ q other. (let P : Option Commit → Type 0 = λ o. Agrees (c.works q) o (maps.get f.links.table q) in subst P (sym (commit_of-there d q f.rows.commits at-vote.0 other)) (joint.agrees q)));
    ended = joint.ended;
    distinct = subst AreDistinct (sym (txs-push d f.rows.commits)) (distinct-push (txs_of f.rows.commits) d.tx joint.distinct not-yet);
    moved = moved-push [] d f.rows.commits joint.moved (away ∙ ap (λ (cs : List Commit). gives (tables_after [] cs) d.tables) (sym joint.commits)) (added ∙ ap (λ (cs : List Commit). takes (tables_after [] cs) d.tables) (sym joint.commits));
    apart = apart-with f c joint d.tx (Some (record { stage = decided; branch = w.branch; moved = w.moved })) (λ u other y v e z.
        (let R : Work → Type 0 = λ a. ShareNoPath a.moved v.moved in subst R (some_same (record { stage = decided; branch = w.branch; moved = w.moved }) y e) (joint.apart d.tx u (λ (same : d.tx ≡ u). other (sym same)) w v is z)));
    plain = λ t y at. ⊎_elim
        (λ (e : t ≡ d.tx). (let R : Work → Type 0 = λ a. a.branch ≡ false → (a.moved.gives ≡ []) × (a.moved.takes ≡ []) in
        subst R (some_same (record { stage = decided; branch = w.branch; moved = w.moved }) y (sym (work-here c.works d.tx (Some (record { stage = decided; branch = w.branch; moved = w.moved }))) ∙ ap (with_work c.works d.tx (Some (record { stage = decided; branch = w.branch; moved = w.moved }))) (sym e) ∙ at)) (joint.plain d.tx w is)))
        (λ (other : t ≢ d.tx). joint.plain t y (sym (work-there c.works d.tx (Some (record { stage = decided; branch = w.branch; moved = w.moved })) t other) ∙ at))
        (cases_eq t d.tx);
    ready = λ t m at. ⊎_elim
        (λ (e : t ≡ d.tx). chosen m w.branch (sym at-tx ∙ ap (decided_in (core_decided c d w)) (sym e) ∙ at))
        (λ (other : t ≢ d.tx). joint.ready t m (sym (tests t other) ∙ at))
        (cases_eq t d.tx);
    held = λ p.
        ap (λ (k : Kept). maps.get k.held p) (settled-decided (kept_of f)) ∙ by_flag p w.branch refl
        ∙ sym (ap (λ ls. on (links ls) p) (tables-push [] d f.rows.commits) ∙ moved p);
    numbers = λ t lt.
        let other : t ≢ d.tx = λ (e : t ≡ d.tx). is-drawn f c joint d.tx w is (subst (λ (x : ℕ). c.drawn < x) e lt) in
        let old = joint.numbers t lt in
        (work-there c.works d.tx (Some (record { stage = decided; branch = w.branch; moved = w.moved })) t other ∙ old.0, commit_of-there d t f.rows.commits at-vote.0 other ∙ old.1, old.2);
    small = joint.small;
    drawn_commits = λ x in_list. ⊎_elim (λ old. joint.drawn_commits x old) (λ (e : x ≡ d). subst (λ (y : Commit). AreDrawn f.rows.opening (links y.tables)) (sym e) drawn) (commit-push x d f.rows.commits in_list);
    drawn_branches = joint.drawn_branches;
    whole = whole;
  }
    where
      chosen : (m : Moved) (b : Bool) → cond b (Some w.moved) None ≡ Some m → IsReady m (kept_of f)
      chosen m true e = (let P : Moved → Type 0 = λ x. IsReady x (kept_of f) in subst P (some_same w.moved m e) ready)
      chosen m false e = absurd cc

      empty : (p : List ℕ) → w.branch ≡ false → (h : Option LinkRow) → held_after w.moved p h ≡ h
      empty p none h = let two = joint.plain d.tx w is none in
          ap (λ (g : List LinkRow). held_by (on g p) (on w.moved.takes p) h) two.0 ∙ ap (λ (t : List LinkRow). held_by None (on t p) h) two.1

      by_flag : (p : List ℕ) (b : Bool) → w.branch ≡ b → maps.get (settle_open (cond b (Some w.moved) None) (settled (decided_in c) (txs_of f.rows.commits) (kept_of f))).held p ≡ held_after w.moved p (on (links (tables_after [] f.rows.commits)) p)
      by_flag p true e = get-held w.moved (settled (decided_in c) (txs_of f.rows.commits) (kept_of f)) p ∙ ap (held_after w.moved p) (joint.held p)
      by_flag p false e = joint.held p ∙ sym (empty p e (on (links (tables_after [] f.rows.commits)) p))

-- THE LISTS AFTER A FINISH, and the state
module _ (f : Folds) (c : Core) (joint : Joint f c) (tx : ℕ) (w : Work) (is : c.works tx ≡ Some w) (was : w.stage ≡ decided) (has : w.branch ≡ true) where
  at-end : IsCommitOf w (commit_of tx f.rows.commits) × (p : BranchPhase) × (maps.get f.links.table tx ≡ branch_for w p) × (is_open p ≡ true)
  at-end = let P : Stage → Type 0 = λ s. AgreesAt s w (commit_of tx f.rows.commits) (maps.get f.links.table tx) in subst P was (agrees-of f c joint tx w is)

  open-tx : decided_in c tx ≡ Some w.moved
  open-tx = ap decided_work is ∙ ap (λ (s : Stage). cond (is_decided s && w.branch) (Some w.moved) None) was ∙ ap (λ b. cond b (Some w.moved) None) has

  none-tx : decided_in (core_finished c tx w.moved) tx ≡ None
  none-tx = ap decided_work (work-here c.works tx None)

  same-there : (t : ℕ) → t ≢ tx → decided_in c t ≡ decided_in (core_finished c tx w.moved) t
  same-there t other = ap decided_work (sym (work-there c.works tx None t other))

  in-list : IsIn tx (txs_of f.rows.commits)
  in-list = commit-in tx f.rows.commits (ap is_some at-end.0.at)

  -- settling it first changes nothing of what all settling leaves
  front : (k : Kept) → settled (decided_in (core_finished c tx w.moved)) (txs_of f.rows.commits) (settle_one w.moved k) ≡ settled (decided_in c) (txs_of f.rows.commits) k
  front k = sym (settled-front (decided_in c) (decided_in (core_finished c tx w.moved)) (txs_of f.rows.commits) tx w.moved k (λ t u in_t in_u. decided-apart f c joint t u) open-tx same-there none-tx in-list joint.distinct)

  pub stored-finished : core_stored (core_finished c tx w.moved) ≡ core_stored c
  stored-finished =
      let g = decided_in (core_finished c tx w.moved) in
      let one : settled g (txs_of c.commits) (settle_one w.moved (core_kept c)) ≡ settled (decided_in c) (txs_of c.commits) (core_kept c) =
      ap (λ (cs : List Commit). settled g (txs_of cs) (settle_one w.moved (core_kept c))) (sym joint.commits) ∙ front (core_kept c) ∙ ap (λ (cs : List Commit). settled (decided_in c) (txs_of cs) (core_kept c)) joint.commits in
      let parts = same-parts g (txs_of c.commits) (core_kept (core_finished c tx w.moved)) (settle_one w.moved (core_kept c)) refl refl in
      λ i. record { commits = c.commits; files = (parts.0 ∙ ap (λ (k : Kept). k.files) one) i; copies = (parts.1 ∙ ap (λ (k : Kept). k.copies) one) i; backups = c.backups; rows_opening = c.rows_opening; links_opening = c.links_opening }

  pub joint-finished : Joint (with_finish f tx w.moved) (core_finished c tx w.moved)
  joint-finished =
      let one : settled (λ (t : ℕ). Some w.moved) (tx ∷ []) (kept_of f) ≡ settle_one w.moved (kept_of f) = refl in
      let parts = same-parts (λ (t : ℕ). Some w.moved) (tx ∷ []) (kept_of f) (core_kept c) joint.files joint.copies in
      record {
        commits = joint.commits;
        rows_opening = joint.rows_opening;
        links_opening = joint.links_opening;
        files = parts.0;
        copies = parts.1;
        backups = joint.backups;
        agrees = works-all c.works tx None (λ q x. Agrees x (commit_of q f.rows.commits) (maps.get (maps.insert f.links.table tx (branch w.moved Done)) q))
            (inr (record { work = w; commit = at-end.0; done = get-here f.links.table tx (branch w.moved Done) ∙ sym (ap (λ b. cond b (Some (branch w.moved Done)) None) has); plain = joint.plain tx w is }))
            (λ q other. (let P : Option Branch → Type 0 = λ b. Agrees (c.works q) (commit_of q f.rows.commits) b in subst P (sym (get-there f.links.table tx (branch w.moved Done) q other)) (joint.agrees q)));
        ended = λ q e. ⊎_elim
            (λ (here : q ≡ tx). (w.moved, ap (maps.get (maps.insert f.links.table tx (branch w.moved Done))) here ∙ get-here f.links.table tx (branch w.moved Done)))
            (λ (other : q ≢ tx). ⊎_elim (λ before. (let old = joint.ended q before in (old.0, get-there f.links.table tx (branch w.moved Done) q other ∙ old.1))) (λ (here : q ≡ tx). absurd (other here)) (has-push q tx f.rows.ended e))
            (cases_eq q tx);
        distinct = joint.distinct;
        moved = joint.moved;
        apart = apart-with f c joint tx None (λ u other y v e z. absurd (none_some y e));
        plain = λ t y at. ⊎_elim
            (λ (e : t ≡ tx). absurd (none_some y (sym (work-here c.works tx None) ∙ ap (with_work c.works tx None) (sym e) ∙ at)))
            (λ (other : t ≢ tx). joint.plain t y (sym (work-there c.works tx None t other) ∙ at))
            (cases_eq t tx);
        ready = λ t m at. ⊎_elim
            (λ (e : t ≡ tx). absurd (not_none m _ at (ap (decided_in (core_finished c tx w.moved)) e ∙ none-tx)))
            (λ (other : t ≢ tx).
            let was_open : decided_in c t ≡ Some m = same-there t other ∙ at in
            ready-other (λ n. true) true true w.moved (kept_of f) (settle_one w.moved (kept_of f)) (settled-whole w.moved (kept_of f)) m (decided-apart f c joint t tx other m w.moved was_open open-tx) (joint.ready t m was_open))
            (cases_eq t tx);
        held = λ p. ap (λ (k : Kept). maps.get k.held p) (front (kept_of f)) ∙ joint.held p;
        numbers = λ t lt.
            let other : t ≢ tx = λ (e : t ≡ tx). is-drawn f c joint tx w is (subst (λ (x : ℕ). c.drawn < x) e lt) in
            let old = joint.numbers t lt in
            (work-there c.works tx None t other ∙ old.0, old.1, get-there f.links.table tx (branch w.moved Done) t other ∙ old.2);
        small = joint.small;
        drawn_commits = joint.drawn_commits;
        drawn_branches = λ q b e. ⊎_elim
            (λ (here : q ≡ tx). (let R : Branch → Type 0 = λ x. AreDrawn f.rows.opening x.moved.gives × AreDrawn f.rows.opening x.moved.takes in
            subst R (some_same (branch w.moved Done) b (sym (get-here f.links.table tx (branch w.moved Done)) ∙ ap (maps.get (maps.insert f.links.table tx (branch w.moved Done))) (sym here) ∙ e))
            (joint.drawn_branches tx (branch w.moved at-end.1) (at-end.2 ∙ ap (λ b. cond b (Some (branch w.moved at-end.1)) None) has))))
            (λ (other : q ≢ tx). joint.drawn_branches q b (sym (get-there f.links.table tx (branch w.moved Done) q other) ∙ e))
            (cases_eq q tx);
        whole = subst IsWhole (sym stored-finished) joint.whole;
      }
    where
      none_some : (x : Work) → None ≡ Some x → ⊥
      none_some x e = cc

-- file commands and Archive
pub joint-kept : (f : Folds) (c : Core) → Joint f c → (files : Files) (copies : Copies) → ((t : ℕ) (m : Moved) → decided_in c t ≡ Some m → IsReady m (kept_of (with_kept f files copies))) → IsWhole (core_stored (core_kept_as c files copies))
    → Joint (with_kept f files copies) (core_kept_as c files copies)
joint-kept f c joint files copies ready whole = record {
  commits = joint.commits;
  rows_opening = joint.rows_opening;
  links_opening = joint.links_opening;
  files = refl;
  copies = refl;
  backups = joint.backups;
  agrees = joint.agrees;
  ended = joint.ended;
  distinct = joint.distinct;
  moved = joint.moved;
  apart = joint.apart;
  plain = joint.plain;
  ready = ready;
  held = λ p. ap (λ h. maps.get h p) (same-held (decided_in c) (txs_of f.rows.commits) (kept_of (with_kept f files copies)) (kept_of f) refl) ∙ joint.held p;
  numbers = joint.numbers;
  small = joint.small;
  drawn_commits = joint.drawn_commits;
  drawn_branches = joint.drawn_branches;
  whole = whole;
}

-- Backup
pub joint-backed_up : (f : Folds) (c : Core) → Joint f c → (b : Backup)
    → IsWhole (core_stored (record { commits = c.commits; files = c.files; copies = c.copies; backups = c.backups ++ b ∷ []; rows_opening = c.rows_opening; links_opening = c.links_opening; works = c.works; drawn = c.drawn }))
    → Joint (record { rows = f.rows; links = f.links; files = f.files; copies = f.copies; backups = f.backups ++ b ∷ [] })
    (record { commits = c.commits; files = c.files; copies = c.copies; backups = c.backups ++ b ∷ []; rows_opening = c.rows_opening; links_opening = c.links_opening; works = c.works; drawn = c.drawn })
joint-backed_up f c joint b whole = record {
  commits = joint.commits;
  rows_opening = joint.rows_opening;
  links_opening = joint.links_opening;
  files = joint.files;
  copies = joint.copies;
  backups = ap (λ (bs : List Backup). bs ++ b ∷ []) joint.backups;
  agrees = joint.agrees;
  ended = joint.ended;
  distinct = joint.distinct;
  moved = joint.moved;
  apart = joint.apart;
  plain = joint.plain;
  ready = joint.ready;
  held = joint.held;
  numbers = joint.numbers;
  small = joint.small;
  drawn_commits = joint.drawn_commits;
  drawn_branches = joint.drawn_branches;
  whole = whole;
}
