-- Each step keeps the joint invariant, with the lists behind what it writes.
use Rattle.std.proofs.Common.{◌≡◌, ◌≢◌, inl, inr, ⊎_elim, ℕ, ◌+◌, ◌*◌, ◌^◌, ◌<◌, ◌≤◌, List, [], ◌∷◌, true, false, cond, ◌&&◌, Option, Some, None, refl, sym, ◌∙◌, ap, subst, arith}
use Rattle.std.proofs.lemmas.Bool.{cases_eq}
use Rattle.std.specs.FinMap as maps
use Rattle.std.specs.Ordering.{nat_cmp}
use Rattle.dl_codec.specs.declared.links.BranchPhase.{BranchPhase}
use Rattle.dl_codec.specs.declared.links.BranchPhase.TheVariants.{Prepared, Done, Aborted}
use Rattle.meaning_settling.specs.Apart.{ShareNoPath}
use Rattle.meaning_settling.specs.Settled.{settle_open, settled}
use Rattle.meaning_settling.specs.Settling.{Moved, Kept, settle_one}
use Rattle.meaning_settling.proofs.SettledLaws.{settled-tests}
use Rattle.meaning_areas.specs.Branches.{Branch, branch, is_phase}
use Rattle.meaning_areas.specs.Commits.{commit_of, has_number}
use Rattle.meaning_areas.specs.Core.{Stage, active, prepared, decided, Work, Core, is_decided, decided_work, decided_in, core_kept, core_stored, no_moved, with_work}
use Rattle.meaning_areas.specs.Lists.{Folds}
use Rattle.meaning_areas.specs.Joint.{branch_for, IsCommitOf, AgreesAt, Agrees, Joint}
use Rattle.meaning_areas.specs.Stands.{is_open, txs_of, kept_of, stored_with, AreDrawn, IsWhole}
use Rattle.meaning_areas.proofs.Tables.{test-same, test-other, get-here, get-there, some_same, not_none}
use Rattle.meaning_areas.specs.Moving.{with_table, core_with}

false_true : false ≡ true → ⊥
false_true e = cc

pub share-sym : (a b : Moved) → ShareNoPath a b → ShareNoPath b a
share-sym a b x p = ⊎_elim (λ e. inr e) (λ e. inl e) (x p)

pub share-none : (b : Moved) → ShareNoPath no_moved b
share-none b p = inl refl

module _ (works : ℕ → Option Work) (tx : ℕ) (o : Option Work) where
  pub work-here : with_work works tx o tx ≡ o
  work-here = ap (λ b. cond b o (works tx)) (test-same tx tx refl)

  pub work-there : (q : ℕ) → q ≢ tx → with_work works tx o q ≡ works q
  work-there q other = ap (λ b. cond b o (works q)) (test-other q tx other)

  -- what holds of each work holds still
  pub works-all : (P : ℕ → Option Work → Type 0) → P tx o → ((q : ℕ) → q ≢ tx → P q (works q)) → (q : ℕ) → P q (with_work works tx o q)
  works-all P here there q = ⊎_elim
      (λ (e : q ≡ tx). subst (λ (t : ℕ). P t (with_work works tx o t)) (sym e) (subst (P tx) (sym work-here) here))
      (λ (other : q ≢ tx). subst (P q) (sym (work-there q other)) (there q other))
      (cases_eq q tx)

-- the links that are held are settled by themselves
pub same-held : (f : ℕ → Option Moved) (ts : List ℕ) (k h : Kept) → k.held ≡ h.held → (settled f ts k).held ≡ (settled f ts h).held
unfolding settle_one
same-held f [] k h held = held
same-held f (t ∷ ts) k h held = same-held f ts (settle_open (f t) k) (settle_open (f t) h) (by (f t))
  where
    by : (o : Option Moved) → (settle_open o k).held ≡ (settle_open o h).held
    by None = held
    by (Some m) = λ i. (settle_one m (record { files = k.files; copies = k.copies; held = held i })).held

module _ (f : Folds) (c : Core) (joint : Joint f c) where
  -- who is apart from all others
  pub apart-with : (tx : ℕ) (o : Option Work) → ((u : ℕ) → u ≢ tx → (w v : Work) → o ≡ Some w → c.works u ≡ Some v → ShareNoPath w.moved v.moved)
      → (t u : ℕ) → t ≢ u → (w v : Work) → with_work c.works tx o t ≡ Some w → with_work c.works tx o u ≡ Some v → ShareNoPath w.moved v.moved
  apart-with tx o here t u other w v x y = ⊎_elim
      (λ (e : t ≡ tx).
      let not_u : u ≢ tx = λ (is : u ≡ tx). other (e ∙ sym is) in
      here u not_u w v (sym (work-here c.works tx o) ∙ ap (with_work c.works tx o) (sym e) ∙ x) (sym (work-there c.works tx o u not_u) ∙ y))
      (λ (not_t : t ≢ tx). ⊎_elim
      (λ (e : u ≡ tx). share-sym v.moved w.moved (here t not_t v w (sym (work-here c.works tx o) ∙ ap (with_work c.works tx o) (sym e) ∙ y) (sym (work-there c.works tx o t not_t) ∙ x)))
      (λ (not_u : u ≢ tx). joint.apart t u other w v (sym (work-there c.works tx o t not_t) ∙ x) (sym (work-there c.works tx o u not_u) ∙ y))
      (cases_eq u tx))
      (cases_eq t tx)

  -- A STEP OF ONE TRANSACTION that settles nothing, and decides nothing
  pub joint-at : (tx drawn : ℕ) (o : Option Work) (table : maps.FinMap nat_cmp Branch)
      → ((q : ℕ) → q ≢ tx → maps.get table q ≡ maps.get f.links.table q)
      → Agrees o (commit_of tx f.rows.commits) (maps.get table tx)
      → (has_number tx f.rows.ended ≡ true → (m : Moved) × (maps.get table tx ≡ Some (branch m Done)))
      → ((b : Branch) → maps.get table tx ≡ Some b → AreDrawn f.rows.opening b.moved.gives × AreDrawn f.rows.opening b.moved.takes)
      → ((u : ℕ) → u ≢ tx → (w v : Work) → o ≡ Some w → c.works u ≡ Some v → ShareNoPath w.moved v.moved)
      → ((w : Work) → o ≡ Some w → w.branch ≡ false → (w.moved.gives ≡ []) × (w.moved.takes ≡ []))
      → decided_work o ≡ decided_work (c.works tx)
      → c.drawn ≤ drawn → (drawn < tx → ⊥) → drawn < (c.rows_opening + 1) * 2 ^ 32
      → Joint (with_table f table) (core_with c (with_work c.works tx o) drawn)
  joint-at tx drawn o table there here ended drawn_b apart plain same more not_later small =
      let tests : (t : ℕ) → decided_in (core_with c (with_work c.works tx o) drawn) t ≡ decided_in c t = λ t. ⊎_elim
      (λ (e : t ≡ tx). ap (λ (q : ℕ). decided_work (with_work c.works tx o q)) e ∙ ap decided_work (work-here c.works tx o) ∙ same ∙ ap (λ (q : ℕ). decided_work (c.works q)) (sym e))
      (λ (other : t ≢ tx). ap decided_work (work-there c.works tx o t other))
      (cases_eq t tx) in
      let stays : core_stored (core_with c (with_work c.works tx o) drawn) ≡ core_stored c =
      ap (stored_with c.commits c.backups c.rows_opening c.links_opening) (settled-tests (decided_in (core_with c (with_work c.works tx o) drawn)) (decided_in c) (txs_of c.commits) (core_kept c) (λ t is. tests t)) in
      record {
        commits = joint.commits;
        rows_opening = joint.rows_opening;
        links_opening = joint.links_opening;
        files = joint.files;
        copies = joint.copies;
        backups = joint.backups;
        agrees = works-all c.works tx o (λ q x. Agrees x (commit_of q f.rows.commits) (maps.get table q)) here (λ q other. (let P : Option Branch → Type 0 = λ b. Agrees (c.works q) (commit_of q f.rows.commits) b in subst P (sym (there q other)) (joint.agrees q)));
        ended = λ q is. ⊎_elim
            (λ (e : q ≡ tx). let was = ended (ap (λ (t : ℕ). has_number t f.rows.ended) (sym e) ∙ is) in (was.0, ap (maps.get table) e ∙ was.1))
            (λ (other : q ≢ tx). let was = joint.ended q is in (was.0, there q other ∙ was.1))
            (cases_eq q tx);
        distinct = joint.distinct;
        moved = joint.moved;
        apart = apart-with tx o apart;
        plain = λ t w is. ⊎_elim
            (λ (e : t ≡ tx). plain w (sym (work-here c.works tx o) ∙ ap (with_work c.works tx o) (sym e) ∙ is))
            (λ (other : t ≢ tx). joint.plain t w (sym (work-there c.works tx o t other) ∙ is))
            (cases_eq t tx);
        ready = λ t m is. joint.ready t m (sym (tests t) ∙ is);
        held = λ p. ap (λ (k : Kept). maps.get k.held p) (settled-tests (decided_in (core_with c (with_work c.works tx o) drawn)) (decided_in c) (txs_of f.rows.commits) (kept_of f) (λ t is. tests t)) ∙ joint.held p;
        numbers = λ t lt.
            let other : t ≢ tx = λ (e : t ≡ tx). not_later (subst (λ (x : ℕ). drawn < x) e lt) in
            let was = joint.numbers t (before c.drawn drawn t more lt) in
            (work-there c.works tx o t other ∙ was.0, was.1, there t other ∙ was.2);
        small = small;
        drawn_commits = joint.drawn_commits;
        drawn_branches = λ q b is. ⊎_elim
            (λ (e : q ≡ tx). drawn_b b (ap (maps.get table) (sym e) ∙ is))
            (λ (other : q ≢ tx). joint.drawn_branches q b (sym (there q other) ∙ is))
            (cases_eq q tx);
        whole = subst IsWhole (sym stays) joint.whole;
      }
    where
      before : (a d t : ℕ) → a ≤ d → d < t → a < t
      before a d t x y = omega arith

  -- a transaction's number was drawn
  pub is-drawn : (tx : ℕ) (w : Work) → c.works tx ≡ Some w → c.drawn < tx → ⊥
  is-drawn tx w is lt = not_none w _ is (joint.numbers tx lt).0

  pub agrees-of : (tx : ℕ) (w : Work) → c.works tx ≡ Some w → AgreesAt w.stage w (commit_of tx f.rows.commits) (maps.get f.links.table tx)
  agrees-of tx w is = let P : Option Work → Type 0 = λ o. Agrees o (commit_of tx f.rows.commits) (maps.get f.links.table tx) in subst P is (joint.agrees tx)

  same_table : Folds
  same_table = with_table f f.links.table

  -- Begin
  pub joint-begun : c.drawn + 1 < (c.rows_opening + 1) * 2 ^ 32 → Joint f (core_with c (with_work c.works (c.drawn + 1) (Some (record { stage = active; branch = false; moved = no_moved }))) (c.drawn + 1))
  joint-begun small =
      let new = joint.numbers (c.drawn + 1) (more c.drawn) in
      joint-at (c.drawn + 1) (c.drawn + 1) (Some (record { stage = active; branch = false; moved = no_moved })) f.links.table (λ q other. refl) (new.1, new.2)
      (joint.ended (c.drawn + 1)) (joint.drawn_branches (c.drawn + 1))
      (λ u other w v is x. (let P : Work → Type 0 = λ y. ShareNoPath y.moved v.moved in subst P (some_same (record { stage = active; branch = false; moved = no_moved }) w is) (share-none v.moved)))
      (λ w is b. (let P : Work → Type 0 = λ y. (y.moved.gives ≡ []) × (y.moved.takes ≡ []) in subst P (some_same (record { stage = active; branch = false; moved = no_moved }) w is) (refl, refl)))
      (sym (ap decided_work new.0)) (le c.drawn) (not_less (c.drawn + 1)) small
    where
      more : (n : ℕ) → n < n + 1
      more n = omega arith

      le : (n : ℕ) → n ≤ n + 1
      le n = omega arith

      not_less : (n : ℕ) → n < n → ⊥
      not_less n lt = omega arith

  module _ (tx : ℕ) (w : Work) (is : c.works tx ≡ Some w) where
    keeps-le : c.drawn ≤ c.drawn
    keeps-le = omega arith

    -- an accepted claim: nobody else holds its paths
    pub joint-claimed : (later : Work) → w.stage ≡ active → later.stage ≡ active → ((u : ℕ) (v : Work) → u ≢ tx → c.works u ≡ Some v → ShareNoPath later.moved v.moved) → (later.branch ≡ false → (later.moved.gives ≡ []) × (later.moved.takes ≡ []))
        → Joint f (core_with c (with_work c.works tx (Some later)) c.drawn)
    joint-claimed later was now apart plain =
        let a = agrees-of tx w is in
        let P : Stage → Type 0 = λ s. AgreesAt s w (commit_of tx f.rows.commits) (maps.get f.links.table tx) in
        let none : (commit_of tx f.rows.commits ≡ None) × (maps.get f.links.table tx ≡ None) = subst P was a in
        let Q : Stage → Type 0 = λ s. AgreesAt s later (commit_of tx f.rows.commits) (maps.get f.links.table tx) in
        joint-at tx c.drawn (Some later) f.links.table (λ q other. refl) (subst Q (sym now) none) (joint.ended tx) (joint.drawn_branches tx)
        (λ u other x v e y. (let R : Work → Type 0 = λ z. ShareNoPath z.moved v.moved in subst R (some_same later x e) (apart u v other y)))
        (λ x e. (let R : Work → Type 0 = λ z. z.branch ≡ false → (z.moved.gives ≡ []) × (z.moved.takes ≡ []) in subst R (some_same later x e) plain))
        (undecided later now ∙ sym (ap decided_work is ∙ undecided w was)) keeps-le (is-drawn tx w is) joint.small
      where
        undecided : (x : Work) → x.stage ≡ active → decided_work (Some x) ≡ None
        undecided x e = ap (λ (s : Stage). cond (is_decided s && x.branch) (Some x.moved) None) e

    -- Prepare
    abbrev voted : Work
    voted = record { stage = prepared; branch = w.branch; moved = w.moved }

    apart-same : (x : Work) → x.moved ≡ w.moved → (u : ℕ) → u ≢ tx → (y v : Work) → Some x ≡ Some y → c.works u ≡ Some v → ShareNoPath y.moved v.moved
    apart-same x same u other y v e z =
        let R : Work → Type 0 = λ a. ShareNoPath a.moved v.moved in
        let S : Moved → Type 0 = λ a. ShareNoPath a v.moved in
        subst R (some_same x y e) (subst S (sym same) (joint.apart tx u (λ (d : tx ≡ u). other (sym d)) w v is z))

    plain-same : (x : Work) → x.moved ≡ w.moved → x.branch ≡ w.branch → (y : Work) → Some x ≡ Some y → y.branch ≡ false → (y.moved.gives ≡ []) × (y.moved.takes ≡ [])
    plain-same x same flag y e =
        let R : Work → Type 0 = λ a. a.branch ≡ false → (a.moved.gives ≡ []) × (a.moved.takes ≡ []) in
        subst R (some_same x y e) (λ none. (let S : Moved → Type 0 = λ a. (a.gives ≡ []) × (a.takes ≡ []) in subst S (sym same) (joint.plain tx w is (sym flag ∙ none))))

    undecided-was : (s : Stage) → w.stage ≡ s → is_decided s ≡ false → decided_work (c.works tx) ≡ None
    undecided-was s was not_yet = ap decided_work is ∙ ap (λ (x : Stage). cond (is_decided x && w.branch) (Some w.moved) None) was ∙ ap (λ b. cond (b && w.branch) (Some w.moved) None) not_yet

    -- with a branch: Links has its Prepared
    pub joint-prepared : w.stage ≡ active → w.branch ≡ true → AreDrawn f.rows.opening w.moved.gives → AreDrawn f.rows.opening w.moved.takes
        → Joint (with_table f (maps.insert f.links.table tx (branch w.moved Prepared))) (core_with c (with_work c.works tx (Some (record { stage = prepared; branch = w.branch; moved = w.moved }))) c.drawn)
    joint-prepared was has given taken =
        let P : Stage → Type 0 = λ s. AgreesAt s w (commit_of tx f.rows.commits) (maps.get f.links.table tx) in
        let none : (commit_of tx f.rows.commits ≡ None) × (maps.get f.links.table tx ≡ None) = subst P was (agrees-of tx w is) in
        joint-at tx c.drawn (Some (record { stage = prepared; branch = w.branch; moved = w.moved })) (maps.insert f.links.table tx (branch w.moved Prepared)) (λ q other. get-there f.links.table tx (branch w.moved Prepared) q other)
        (none.0, get-here f.links.table tx (branch w.moved Prepared) ∙ sym (ap (λ b. cond b (Some (branch w.moved Prepared)) None) has))
        (λ e. (let done = joint.ended tx e in absurd (not_none (branch done.0 Done) _ done.1 none.1)))
        (λ b e. (let R : Branch → Type 0 = λ x. AreDrawn f.rows.opening x.moved.gives × AreDrawn f.rows.opening x.moved.takes in subst R (some_same (branch w.moved Prepared) b (sym (get-here f.links.table tx (branch w.moved Prepared)) ∙ e)) (given, taken)))
        (apart-same (record { stage = prepared; branch = w.branch; moved = w.moved }) refl) (plain-same (record { stage = prepared; branch = w.branch; moved = w.moved }) refl refl)
        (sym (undecided-was active was refl)) keeps-le (is-drawn tx w is) joint.small

    -- without one nothing is written
    pub joint-voted : w.stage ≡ active → w.branch ≡ false → Joint f (core_with c (with_work c.works tx (Some (record { stage = prepared; branch = w.branch; moved = w.moved }))) c.drawn)
    joint-voted was none_has =
        let P : Stage → Type 0 = λ s. AgreesAt s w (commit_of tx f.rows.commits) (maps.get f.links.table tx) in
        let none : (commit_of tx f.rows.commits ≡ None) × (maps.get f.links.table tx ≡ None) = subst P was (agrees-of tx w is) in
        joint-at tx c.drawn (Some (record { stage = prepared; branch = w.branch; moved = w.moved })) f.links.table (λ q other. refl)
        (none.0, none.1 ∙ sym (ap (λ b. cond b (Some (branch w.moved Prepared)) None) none_has))
        (joint.ended tx) (joint.drawn_branches tx)
        (apart-same (record { stage = prepared; branch = w.branch; moved = w.moved }) refl) (plain-same (record { stage = prepared; branch = w.branch; moved = w.moved }) refl refl)
        (sym (undecided-was active was refl)) keeps-le (is-drawn tx w is) joint.small

    -- a transaction that is dropped before it has a branch, or without one
    pub joint-dropped : decided_work (c.works tx) ≡ None → commit_of tx f.rows.commits ≡ None → maps.get f.links.table tx ≡ None → Joint f (core_with c (with_work c.works tx None) c.drawn)
    joint-dropped undecided no_commit no_branch = joint-at tx c.drawn None f.links.table (λ q other. refl) (inl (no_commit, inl no_branch)) (joint.ended tx) (joint.drawn_branches tx)
        (λ u other x v e y. absurd (none_some x e)) (λ x e. absurd (none_some x e)) (sym undecided) keeps-le (is-drawn tx w is) joint.small
      where
        none_some : (x : Work) → None ≡ Some x → ⊥
        none_some x e = cc

    -- with one: Links has its Aborted
    pub joint-aborted : w.stage ≡ prepared → w.branch ≡ true → Joint (with_table f (maps.insert f.links.table tx (branch w.moved Aborted))) (core_with c (with_work c.works tx None) c.drawn)
    joint-aborted was has =
        let P : Stage → Type 0 = λ s. AgreesAt s w (commit_of tx f.rows.commits) (maps.get f.links.table tx) in
        let at : (commit_of tx f.rows.commits ≡ None) × (maps.get f.links.table tx ≡ branch_for w Prepared) = subst P was (agrees-of tx w is) in
        let there : maps.get f.links.table tx ≡ Some (branch w.moved Prepared) = at.1 ∙ ap (λ b. cond b (Some (branch w.moved Prepared)) None) has in
        joint-at tx c.drawn None (maps.insert f.links.table tx (branch w.moved Aborted)) (λ q other. get-there f.links.table tx (branch w.moved Aborted) q other)
        (inl (at.0, inr (w.moved, get-here f.links.table tx (branch w.moved Aborted))))
        (λ e. (let done = joint.ended tx e in absurd (false_true (ap (λ (x : Branch). is_phase x.phase Done) (some_same (branch w.moved Prepared) (branch done.0 Done) (sym there ∙ done.1))))))
        (λ b e. (let R : Branch → Type 0 = λ x. AreDrawn f.rows.opening x.moved.gives × AreDrawn f.rows.opening x.moved.takes in subst R (some_same (branch w.moved Aborted) b (sym (get-here f.links.table tx (branch w.moved Aborted)) ∙ e)) (joint.drawn_branches tx (branch w.moved Prepared) there)))
        (λ u other x v e y. absurd (none_some x e)) (λ x e. absurd (none_some x e)) (sym (undecided-was prepared was refl)) keeps-le (is-drawn tx w is) joint.small
      where
        none_some : (x : Work) → None ≡ Some x → ⊥
        none_some x e = cc

    -- Finish of a commit without a branch
    pub joint-ended : w.stage ≡ decided → w.branch ≡ false → Joint f (core_with c (with_work c.works tx None) c.drawn)
    joint-ended was none_has =
        let P : Stage → Type 0 = λ s. AgreesAt s w (commit_of tx f.rows.commits) (maps.get f.links.table tx) in
        let at : IsCommitOf w (commit_of tx f.rows.commits) × (p : BranchPhase) × (maps.get f.links.table tx ≡ branch_for w p) × (is_open p ≡ true) = subst P was (agrees-of tx w is) in
        joint-at tx c.drawn None f.links.table (λ q other. refl)
        (inr (record { work = w; commit = at.0; done = at.2 ∙ ap (λ b. cond b (Some (branch w.moved at.1)) None) none_has ∙ sym (ap (λ b. cond b (Some (branch w.moved Done)) None) none_has); plain = joint.plain tx w is }))
        (joint.ended tx) (joint.drawn_branches tx) (λ u other x v e y. absurd (none_some x e)) (λ x e. absurd (none_some x e))
        (sym (ap decided_work is ∙ ap (λ (s : Stage). cond (is_decided s && w.branch) (Some w.moved) None) was ∙ ap (λ b. cond b (Some w.moved) None) none_has)) keeps-le (is-drawn tx w is) joint.small
      where
        none_some : (x : Work) → None ≡ Some x → ⊥
        none_some x e = cc
