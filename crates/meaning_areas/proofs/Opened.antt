-- THE STATE OF AN OPENING: lists that stand for something go with a state in which the branches in doubt stand without a session.
use Rattle.std.proofs.Common.{◌≡◌, inl, inr, ℕ, ◌+◌, ◌-◌, ◌*◌, ◌^◌, ◌/◌, ◌<◌, [], Bool, true, false, cond, Option, Some, None, is_some, refl, sym, ◌∙◌, ap, subst, arith}
use Rattle.std.specs.FinMap as maps
use Rattle.dl_codec.specs.declared.links.BranchPhase.{BranchPhase}
use Rattle.dl_codec.specs.declared.links.BranchPhase.TheVariants.{Prepared, Committed, Done, Aborted}
use Rattle.meaning_settling.specs.Settled.{settled}
use Rattle.meaning_settling.specs.Settling.{Moved, Kept}
use Rattle.meaning_settling.proofs.SettledLaws.{settled-tests}
use Rattle.meaning_areas.specs.Branches.{Branch, branch, is_phase}
use Rattle.meaning_areas.specs.Commits.{Commit, commit_of}
use Rattle.meaning_areas.specs.Core.{decided, Work, decided_work, decided_in, core_kept, core_stored}
use Rattle.meaning_areas.specs.Lists.{Folds}
use Rattle.meaning_areas.specs.Joint.{IsCommitOf, IsOver, Agrees, Joint}
use Rattle.meaning_areas.specs.Stands.{is_open, is_past, open_branch, open_in, txs_of, kept_of, settled_of, stored_of, IsBranch, Compares, IsWhole}
use Rattle.meaning_areas.proofs.Append.{same_moved, same_phase}
use Rattle.meaning_areas.proofs.Standing.{same-parts, open_is}
use Rattle.meaning_areas.proofs.Tables.{some_same, not_none, in-commit}
use Rattle.meaning_areas.specs.Moving.{open_work, opened, core_opened}

false_true : false ≡ true → ⊥
false_true e = cc

-- decided where it has a commit, and else prepared
of-branch : (d : Commit) (m : Moved) (p : BranchPhase) (w : Work) → w.branch ≡ true → w.moved ≡ m → IsBranch d.branch d.gives d.takes (Some (branch m p)) → IsCommitOf w (Some d) × (is_phase p Aborted ≡ false)
of-branch d m p w has is b = by d.branch refl b
  where
    by : (x : Bool) → d.branch ≡ x → IsBranch x d.gives d.takes (Some (branch m p)) → IsCommitOf w (Some d) × (is_phase p Aborted ≡ false)
    by true e h =
        let same : m ≡ record { gives = d.gives; takes = d.takes; fill = h.0 } = same_moved m _ p h.1 h.2 in (
          record { commit = d; at = refl; branch = e ∙ sym has; gives = sym (ap (λ (x : Moved). x.gives) (is ∙ same)); takes = sym (ap (λ (x : Moved). x.takes) (is ∙ same)) },
          ap (λ (x : BranchPhase). is_phase x Aborted) (same_phase m _ p h.1 h.2) ∙ h.3,
        )
    by false e h = absurd (not_none (branch m p) _ refl h.0)

no_plain : (w : Work) → w.branch ≡ true → w.branch ≡ false → (w.moved.gives ≡ []) × (w.moved.takes ≡ [])
no_plain w has none = absurd (false_true (sym none ∙ has))

some_agrees : (m : Moved) (p : BranchPhase) (c : Option Commit) → ((d : Commit) → c ≡ Some d → IsBranch d.branch d.gives d.takes (Some (branch m p))) → (is_past p ≡ true → is_some c ≡ true) → Agrees (opened c (Some (branch m p))) c (Some (branch m p))
some_agrees m Prepared None is past = (refl, refl)
some_agrees m Prepared (Some d) is past = ((of-branch d m Prepared (open_work (Some d) m) refl refl (is d refl)).0, Prepared, refl, refl)
some_agrees m Committed None is past = absurd (false_true (past refl))
some_agrees m Committed (Some d) is past = ((of-branch d m Committed (open_work (Some d) m) refl refl (is d refl)).0, Committed, refl, refl)
some_agrees m Done None is past = absurd (false_true (past refl))
some_agrees m Done (Some d) is past = inr (record { work = open_work (Some d) m; commit = (of-branch d m Done (open_work (Some d) m) refl refl (is d refl)).0; done = refl; plain = no_plain (open_work (Some d) m) refl })
some_agrees m Aborted None is past = inl (refl, inr (m, refl))
some_agrees m Aborted (Some d) is past = absurd (false_true (sym (of-branch d m Aborted (open_work (Some d) m) refl refl (is d refl)).1))

none_agrees : (c : Option Commit) → ((d : Commit) → c ≡ Some d → IsBranch d.branch d.gives d.takes None) → Agrees None c None
none_agrees None is = inl (refl, inl refl)
none_agrees (Some d) is = inr (by d.branch refl (is d refl))
  where
    by : (x : Bool) → d.branch ≡ x → IsBranch x d.gives d.takes None → IsOver (Some d) None
    by true e h = absurd (none_some _ h.2)
      where
        none_some : (x : Branch) → None ≡ Some x → ⊥
        none_some x e = cc
    by false e h = record {
      work = record { stage = decided; branch = false; moved = record { gives = []; takes = []; fill = false } };
      commit = record { commit = d; at = refl; branch = e; gives = h.1; takes = h.2 };
      done = refl;
      plain = λ e. (refl, refl);
    }

opened_agrees : (c : Option Commit) (b : Option Branch) → ((d : Commit) → c ≡ Some d → IsBranch d.branch d.gives d.takes b) → ((x : Branch) → b ≡ Some x → is_past x.phase ≡ true → is_some c ≡ true) → Agrees (opened c b) c b
opened_agrees c None is past = none_agrees c is
opened_agrees c (Some x) is past = some_agrees x.moved x.phase c is (past x refl)

opened_open : (c : Option Commit) (b : Option Branch) (w : Work) → opened c b ≡ Some w → (open_branch b ≡ Some w.moved) × (w.branch ≡ true)
opened_open c None w e = absurd cc
opened_open c (Some x) w e = by (is_open x.phase) e
  where
    of : (c : Option Commit) → open_work c x.moved ≡ w → (Some x.moved ≡ Some w.moved) × (w.branch ≡ true)
    of None s = (ap (λ (y : Work). Some y.moved) s, sym (ap (λ (y : Work). y.branch) s))
    of (Some d) s = (ap (λ (y : Work). Some y.moved) s, sym (ap (λ (y : Work). y.branch) s))

    by : (y : Bool) → cond y (Some (open_work c x.moved)) None ≡ Some w → (cond y (Some x.moved) None ≡ Some w.moved) × (w.branch ≡ true)
    by true s = of c (some_same (open_work c x.moved) w s)
    by false s = absurd cc

opened_decided : (c : Option Commit) (b : Option Branch) (m : Moved) → decided_work (opened c b) ≡ Some m → (is_some c ≡ true) × (open_branch b ≡ Some m)
opened_decided c None m e = absurd cc
opened_decided c (Some x) m e = by (is_open x.phase) c e
  where
    by : (y : Bool) (c : Option Commit) → decided_work (cond y (Some (open_work c x.moved)) None) ≡ Some m → (is_some c ≡ true) × (cond y (Some x.moved) None ≡ Some m)
    by true None s = absurd cc
    by true (Some d) s = (refl, s)
    by false c s = absurd cc

module _ (f : Folds) (compares : Compares f) (whole : IsWhole (stored_of f)) where
  agrees : (t : ℕ) → Agrees (opened (commit_of t f.rows.commits) (maps.get f.links.table t)) (commit_of t f.rows.commits) (maps.get f.links.table t)
  agrees t = opened_agrees (commit_of t f.rows.commits) (maps.get f.links.table t) (λ d is. compares.branches t d is) (λ x is past. compares.decided t x is past)

  tests : settled (decided_in (core_opened f)) (txs_of f.rows.commits) (kept_of f) ≡ settled_of f
  tests = settled-tests (decided_in (core_opened f)) (open_in f.links) (txs_of f.rows.commits) (kept_of f)
      (λ t is. sym (open_is (opened (commit_of t f.rows.commits) (maps.get f.links.table t)) (commit_of t f.rows.commits) (maps.get f.links.table t) (agrees t) (in-commit t f.rows.commits is)))

  pub opened-stored : core_stored (core_opened f) ≡ stored_of f
  opened-stored =
      let parts = same-parts (decided_in (core_opened f)) (txs_of f.rows.commits) (core_kept (core_opened f)) (kept_of f) refl refl in
      λ i. record { commits = f.rows.commits; files = (parts.0 ∙ ap (λ (k : Kept). k.files) tests) i; copies = (parts.1 ∙ ap (λ (k : Kept). k.copies) tests) i; backups = f.backups; rows_opening = f.rows.opening; links_opening = f.links.opening }

  pub joint-opened : Joint f (core_opened f)
  joint-opened = record {
    commits = refl;
    rows_opening = refl;
    links_opening = refl;
    files = refl;
    copies = refl;
    backups = refl;
    agrees = agrees;
    ended = compares.ended;
    distinct = compares.distinct;
    moved = compares.moved;
    apart = λ t u other w v x y. compares.apart t u other w.moved v.moved (opened_open (commit_of t f.rows.commits) (maps.get f.links.table t) w x).0 (opened_open (commit_of u f.rows.commits) (maps.get f.links.table u) v y).0;
    plain = λ t w is none. no_plain w (opened_open (commit_of t f.rows.commits) (maps.get f.links.table t) w is).1 none;
    ready = λ t m is. let two = opened_decided (commit_of t f.rows.commits) (maps.get f.links.table t) m is in compares.ready t m two.0 two.1;
    held = λ p. ap (λ (k : Kept). maps.get k.held p) tests ∙ compares.held p;
    numbers = λ t lt. let none = compares.numbers t (late f.rows.opening t lt) in (λ i. opened (none.0 i) (none.1 i), none.0, none.1);
    small = less f.rows.opening;
    drawn_commits = compares.drawn_commits;
    drawn_branches = compares.drawn_branches;
    whole = subst IsWhole (sym opened-stored) whole;
  }
    where
      late : (o t : ℕ) → (o + 1) * 2 ^ 32 - 1 < t → o < t / 2 ^ 32
      late o t lt = omega arith

      less : (o : ℕ) → (o + 1) * 2 ^ 32 - 1 < (o + 1) * 2 ^ 32
      less o = omega arith
