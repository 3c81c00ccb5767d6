-- THE LISTS RECOVER TO THE STATE: what follows from the joint invariant.
use Rattle.std.proofs.Common.{◌≡◌, ⊎_elim, ℕ, ◌+◌, ◌*◌, ◌^◌, ◌/◌, ◌<◌, List, [], ◌∷◌, Bool, true, false, cond, ◌&&◌, Option, Some, None, is_some, refl, sym, ◌∙◌, ap, subst, arith}
use Rattle.std.specs.FinMap as maps
use Rattle.dl_codec.specs.declared.links.BranchPhase.{BranchPhase}
use Rattle.dl_codec.specs.declared.links.BranchPhase.TheVariants.{Prepared, Committed, Done, Aborted}
use Rattle.meaning_settling.specs.Apart.{ShareNoPath}
use Rattle.meaning_settling.specs.Settled.{settle_open, settled}
use Rattle.meaning_settling.specs.Settling.{Moved, Kept, settle_one}
use Rattle.meaning_settling.proofs.SettledLaws.{settled-tests}
use Rattle.meaning_areas.specs.Branches.{Branch, branch, is_phase}
use Rattle.meaning_areas.specs.Commits.{Commit, commit_of}
use Rattle.meaning_areas.specs.Core.{Stage, active, prepared, decided, Work, Core, is_decided, decided_work, decided_in, core_kept, core_stored}
use Rattle.meaning_areas.specs.Lists.{Folds}
use Rattle.meaning_areas.specs.Joint.{IsDropped, branch_for, IsCommitOf, AgreesAt, IsOver, Agrees, Joint}
use Rattle.meaning_areas.specs.Stands.{is_open, is_past, open_branch, open_in, txs_of, kept_of, settled_of, stored_of, IsBranch, Compares, IsStand}
use Rattle.meaning_areas.proofs.Tables.{some_same, not_none, in-commit}

false_true : false ≡ true → ⊥
false_true e = cc

-- settling looks at no held link for its files and copies

pub same-parts : (f : ℕ → Option Moved) (ts : List ℕ) (k h : Kept) → k.files ≡ h.files → k.copies ≡ h.copies
    → ((settled f ts k).files ≡ (settled f ts h).files) × ((settled f ts k).copies ≡ (settled f ts h).copies)
unfolding settle_one
same-parts f [] k h files copies = (files, copies)
same-parts f (t ∷ ts) k h files copies = let one = by (f t) in same-parts f ts (settle_open (f t) k) (settle_open (f t) h) one.0 one.1
  where
    by : (o : Option Moved) → ((settle_open o k).files ≡ (settle_open o h).files) × ((settle_open o k).copies ≡ (settle_open o h).copies)
    by None = (files, copies)
    by (Some m) = (
      (λ i. (settle_one m (record { files = files i; copies = copies i; held = k.held })).files),
      (λ i. (settle_one m (record { files = files i; copies = copies i; held = k.held })).copies),
    )

-- what commits and branches say of a transaction

open_for : (w : Work) (p : BranchPhase) → is_open p ≡ true → open_branch (branch_for w p) ≡ cond w.branch (Some w.moved) None
open_for w p still = by w.branch
  where
    by : (b : Bool) → open_branch (cond b (Some (branch w.moved p)) None) ≡ cond b (Some w.moved) None
    by true = ap (λ x. cond x (Some w.moved) None) still
    by false = refl

closed_for : (w : Work) → open_branch (branch_for w Done) ≡ None
closed_for w = by w.branch
  where
    by : (b : Bool) → open_branch (cond b (Some (branch w.moved Done)) None) ≡ None
    by true = refl
    by false = refl

open_dropped : (b : Option Branch) → IsDropped b → open_branch b ≡ None
open_dropped b d = ⊎_elim (λ (none : b ≡ None). ap open_branch none) (λ (gone : (m : Moved) × (b ≡ Some (branch m Aborted))). ap open_branch gone.1) d

-- a branch in doubt that has a commit is a decided transaction's
pub open_is : (o : Option Work) (c : Option Commit) (b : Option Branch) → Agrees o c b → is_some c ≡ true → open_branch b ≡ decided_work o
open_is None c b a some = ⊎_elim
    (λ (none : (c ≡ None) × IsDropped b). absurd (false_true (sym (ap is_some none.0) ∙ some)))
    (λ (over : IsOver c b). ap open_branch over.done ∙ closed_for over.work) a
open_is (Some w) c b a some = at w.stage a
  where
    at : (s : Stage) → AgreesAt s w c b → open_branch b ≡ cond (is_decided s && w.branch) (Some w.moved) None
    at active h = absurd (false_true (sym (ap is_some h.0) ∙ some))
    at prepared h = absurd (false_true (sym (ap is_some h.0) ∙ some))
    at decided h = ap open_branch h.2 ∙ open_for w h.1 h.3

-- each branch in doubt is one of a transaction
pub open_works : (o : Option Work) (c : Option Commit) (b : Option Branch) (m : Moved) → Agrees o c b → open_branch b ≡ Some m → (w : Work) × (o ≡ Some w) × (w.moved ≡ m)
open_works None c b m a is = absurd (⊎_elim
    (λ (none : (c ≡ None) × IsDropped b). not_none m (open_branch b) is (open_dropped b none.1))
    (λ (over : IsOver c b). not_none m (open_branch b) is (ap open_branch over.done ∙ closed_for over.work)) a)
open_works (Some w) c b m a is = (w, refl, at w.stage a)
  where
    chosen : (x : Bool) → cond x (Some w.moved) None ≡ Some m → w.moved ≡ m
    chosen true e = some_same w.moved m e
    chosen false e = absurd cc

    at : (s : Stage) → AgreesAt s w c b → w.moved ≡ m
    at active h = absurd (not_none m (open_branch b) is (ap open_branch h.1))
    at prepared h = chosen w.branch (sym (open_for w Prepared refl) ∙ sym (ap open_branch h.1) ∙ is)
    at decided h = chosen w.branch (sym (open_for w h.1 h.3) ∙ sym (ap open_branch h.2) ∙ is)

of_commit : (w : Work) (c : Option Commit) (b : Option Branch) (p : BranchPhase) → IsCommitOf w c → b ≡ branch_for w p → is_phase p Aborted ≡ false → (w.branch ≡ false → (w.moved.gives ≡ []) × (w.moved.takes ≡ [])) → (d : Commit) → c ≡ Some d → IsBranch d.branch d.gives d.takes b
of_commit w c b p is at kept plain d found =
    let same : is.commit ≡ d = some_same is.commit d (sym is.at ∙ found) in
    let P : Commit → Type 0 = λ x. IsBranch x.branch x.gives x.takes b in
    subst P same (subst (λ x. IsBranch x is.commit.gives is.commit.takes b) (sym is.branch) (subst (λ x. IsBranch w.branch x is.commit.takes b) (sym is.gives) (subst (λ x. IsBranch w.branch w.moved.gives x b) (sym is.takes) (by w.branch refl))))
  where
    by : (x : Bool) → w.branch ≡ x → IsBranch x w.moved.gives w.moved.takes b
    by true e = (w.moved.fill, p, at ∙ ap (λ x. cond x (Some (branch w.moved p)) None) e, kept)
    by false e = (at ∙ ap (λ x. cond x (Some (branch w.moved p)) None) e, (plain e).0, (plain e).1)

still_kept : (p : BranchPhase) → is_open p ≡ true → is_phase p Aborted ≡ false
still_kept Prepared e = refl
still_kept Committed e = refl
still_kept Done e = absurd (false_true e)
still_kept Aborted e = absurd (false_true e)

pub branch_is : (o : Option Work) (c : Option Commit) (b : Option Branch) → ((w : Work) → o ≡ Some w → w.branch ≡ false → (w.moved.gives ≡ []) × (w.moved.takes ≡ [])) → Agrees o c b → (d : Commit) → c ≡ Some d → IsBranch d.branch d.gives d.takes b
branch_is None c b plain a d found = ⊎_elim
    (λ (none : (c ≡ None) × IsDropped b). absurd (not_none d c found none.0))
    (λ (over : IsOver c b). of_commit over.work c b Done over.commit over.done refl over.plain d found) a
branch_is (Some w) c b plain a d found = at w.stage a
  where
    at : (s : Stage) → AgreesAt s w c b → IsBranch d.branch d.gives d.takes b
    at active h = absurd (not_none d c found h.0)
    at prepared h = absurd (not_none d c found h.0)
    at decided h = of_commit w c b h.1 h.0 h.2 (still_kept h.1 h.3) (plain w refl) d found

-- a branch that is Committed or Done has a commit
pub past_is : (o : Option Work) (c : Option Commit) (b : Option Branch) (x : Branch) → Agrees o c b → b ≡ Some x → is_past x.phase ≡ true → is_some c ≡ true
past_is None c b x a at past = ⊎_elim
    (λ (none : (c ≡ None) × IsDropped b). absurd (⊎_elim (λ (e : b ≡ None). not_none x b at e)
    (λ (gone : (m : Moved) × (b ≡ Some (branch m Aborted))). false_true (ap (λ (y : Branch). is_past y.phase) (some_same (branch gone.0 Aborted) x (sym gone.1 ∙ at)) ∙ past)) none.1))
    (λ (over : IsOver c b). ap is_some over.commit.at) a
past_is (Some w) c b x a at past = by w.stage a
  where
    waits : (y : Bool) → cond y (Some (branch w.moved Prepared)) None ≡ Some x → ⊥
    waits true e = false_true (ap (λ (z : Branch). is_past z.phase) (some_same (branch w.moved Prepared) x e) ∙ past)
    waits false e = cc

    by : (s : Stage) → AgreesAt s w c b → is_some c ≡ true
    by active h = absurd (not_none x b at h.1)
    by prepared h = absurd (waits w.branch (sym h.1 ∙ at))
    by decided h = ap is_some h.0.at

module _ (f : Folds) (c : Core) (joint : Joint f c) where
  pub same-tests : (t : ℕ) → is_some (commit_of t f.rows.commits) ≡ true → open_in f.links t ≡ decided_in c t
  same-tests t some = open_is (c.works t) (commit_of t f.rows.commits) (maps.get f.links.table t) (joint.agrees t) some

  pub same-settled : settled_of f ≡ settled (decided_in c) (txs_of f.rows.commits) (kept_of f)
  same-settled = settled-tests (open_in f.links) (decided_in c) (txs_of f.rows.commits) (kept_of f) (λ t is. same-tests t (in-commit t f.rows.commits is))

  late : (t : ℕ) → f.rows.opening < t / 2 ^ 32 → c.drawn < t
  late t lt = later c.drawn c.rows_opening t joint.small (subst (λ (x : ℕ). x < t / 2 ^ 32) joint.rows_opening lt)
    where
      later : (d o t : ℕ) → d < (o + 1) * 2 ^ 32 → o < t / 2 ^ 32 → d < t
      later d o t a b = omega arith

  pub joint-compares : Compares f
  joint-compares = record {
    distinct = joint.distinct;
    moved = joint.moved;
    branches = λ tx d is. branch_is (c.works tx) (commit_of tx f.rows.commits) (maps.get f.links.table tx) (joint.plain tx) (joint.agrees tx) d is;
    decided = λ tx b at past. past_is (c.works tx) (commit_of tx f.rows.commits) (maps.get f.links.table tx) b (joint.agrees tx) at past;
    ended = joint.ended;
    apart = λ t u other a b x y.
        let first = open_works (c.works t) (commit_of t f.rows.commits) (maps.get f.links.table t) a (joint.agrees t) x in
        let second = open_works (c.works u) (commit_of u f.rows.commits) (maps.get f.links.table u) b (joint.agrees u) y in
        subst (λ (z : Moved). ShareNoPath z b) first.2 (subst (λ (z : Moved). ShareNoPath first.0.moved z) second.2 (joint.apart t u other first.0 second.0 first.1 second.1));
    ready = λ tx m some is. joint.ready tx m (sym (same-tests tx some) ∙ is);
    held = λ p. ap (λ (k : Kept). maps.get k.held p) same-settled ∙ joint.held p;
    numbers = λ tx lt. let n = joint.numbers tx (late tx lt) in (n.1, n.2);
    drawn_commits = joint.drawn_commits;
    drawn_branches = joint.drawn_branches;
  }

  pub joint-stored : core_stored c ≡ stored_of f
  joint-stored =
      let parts = same-parts (decided_in c) (txs_of c.commits) (core_kept c) (kept_of f) (sym joint.files) (sym joint.copies) in
      let same : settled (decided_in c) (txs_of c.commits) (kept_of f) ≡ settled_of f = ap (λ (cs : List Commit). settled (decided_in c) (txs_of cs) (kept_of f)) (sym joint.commits) ∙ sym same-settled in
      λ i. record {
        commits = sym joint.commits i;
        files = (parts.0 ∙ ap (λ (k : Kept). k.files) same) i;
        copies = (parts.1 ∙ ap (λ (k : Kept). k.copies) same) i;
        backups = sym joint.backups i;
        rows_opening = sym joint.rows_opening i;
        links_opening = sym joint.links_opening i;
      }

  -- THE LISTS STAND FOR THE STORED PART OF THE STATE
  pub joint-stand : IsStand f (core_stored c)
  joint-stand = record { compares = joint-compares; whole = joint.whole; is = joint-stored }
