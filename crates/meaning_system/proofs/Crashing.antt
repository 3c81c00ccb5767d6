-- CrashManager and Tick on states.
use Rattle.std.proofs.Common.{◌≡◌, ℕ, ◌+◌, ◌*◌, ◌^◌, ◌≤◌, ◌==◌, true, not, cond, ◌&&◌, Option, Some, None, refl, sym, ◌∙◌, ap, subst, arith}
use Rattle.std.proofs.lemmas.Bool.Decides.{nat_tests}
use Rattle.std.specs.FinMap as maps
use Rattle.std.specs.FinMap.{get-retain_keys, nat_cmp-IsAntisymmetric}
use Rattle.std.specs.Ordering.{nat_cmp}
use Rattle.std.specs.declared.cmp.Ordering.TheVariants.{Equal}
use Rattle.dl_base.specs.declared.step.Phase.{Phase}
use Rattle.dl_base.specs.declared.step.Phase.TheVariants as phases
use Rattle.meaning_areas.specs.Core.{no_moved}
use Rattle.meaning_areas.specs.Lists.{Folds}
use Rattle.meaning_areas.specs.Joint.{Joint}
use Rattle.meaning_areas.proofs.Stops.{joint-manager, joint-database}
use Rattle.meaning_settling.specs.Settling.{Moved}
use Rattle.meaning_system.specs.CoreOf.{IsLive, Seen, HasClaims, stage_of, claimed_by, work_by, work_at, core_of}
use Rattle.meaning_system.specs.Machine.{is_bound, crash_manager, crash_database}
use Rattle.meaning_system.specs.State.{Txn, State, moved_of, is_active, differs}
use Rattle.meaning_areas.specs.Moving.{with_links_opening, with_rows_opening, forgotten_at, forgotten, left_at, left, core_manager, core_database}

not-next : (n o : ℕ) → n ≤ o → not (n == o + 1) ≡ true
not-next n o le = grind (arith, nat_tests)

forgets : (seen : Option ℕ) (now : ℕ) (m : Moved) → Seen seen now m → claimed_by (differs seen (now + 1)) m ≡ no_moved
forgets None now m is = is
forgets (Some n) now m le = ap (λ b. claimed_by b m) (not-next n now le)

manager-work : (s : State) (o : Option Txn) → ((t : Txn) → o ≡ Some t → IsLive t.phase × Seen t.seen s.links_opening (moved_of t)) → forgotten (work_at s o) ≡ work_at (crash_manager s) o
manager-work s None has = refl
manager-work s (Some t) has = by t.phase (has t refl).0 (has t refl).1
  where
    by : (p : Phase) → IsLive p → Seen t.seen s.links_opening (moved_of t)
        → Some (forgotten_at (stage_of p) (work_by p (claimed_by (is_active p && differs t.seen s.links_opening) (moved_of t)))) ≡ Some (work_by p (claimed_by (is_active p && differs t.seen (s.links_opening + 1)) (moved_of t)))
    by phases.Active live seen = ap (λ (m : Moved). Some (work_by phases.Active m)) (sym (forgets t.seen s.links_opening (moved_of t) seen))
    by phases.Prepared live seen = refl
    by phases.Decided live seen = refl
    by phases.Finished live seen = absurd live
    by phases.Dropped live seen = absurd live

pub state-manager : (f : Folds) (s : State) → HasClaims s → Joint f (core_of s) → Joint (with_links_opening f) (core_of (crash_manager s))
state-manager f s has joint =
    let same : core_manager (core_of s) ≡ core_of (crash_manager s) = λ i. record {
      commits = s.commits;
      files = s.files;
      copies = s.copies;
      backups = s.backups;
      rows_opening = s.rows_opening;
      links_opening = s.links_opening + 1;
      works = λ q. manager-work s (maps.get s.txs q) (λ t is. (has.live q t is, has.seen q t is)) i;
      drawn = (core_of s).drawn;
    } in
    subst (Joint (with_links_opening f)) same (joint-manager f (core_of s) joint)

-- Tick changes nothing that lists know of
pub state-ticked : (f : Folds) (s : State) (moment : ℕ) → Joint f (core_of s) → Joint f (core_of (record s { moment = moment }))
state-ticked f s moment joint = joint

-- CrashDatabase: active transactions are gone
database-work : (s : State) (o : Option Txn) → ((t : Txn) → o ≡ Some t → IsLive t.phase) → left (work_at s o) ≡ work_at s (cond (is_bound o) o None)
database-work s None live = refl
database-work s (Some t) live = by t.phase refl (live t refl)
  where
    by : (p : Phase) → t.phase ≡ p → IsLive p
        → left_at (stage_of p) (work_by p (claimed_by (is_active p && differs t.seen s.links_opening) (moved_of t))) ≡ work_at s (cond (not (is_active p)) (Some t) None)
    by phases.Active is live = refl
    by phases.Prepared is live = sym (ap (λ (q : Phase). Some (work_by q (claimed_by (is_active q && differs t.seen s.links_opening) (moved_of t)))) is)
    by phases.Decided is live = sym (ap (λ (q : Phase). Some (work_by q (claimed_by (is_active q && differs t.seen s.links_opening) (moved_of t)))) is)
    by phases.Finished is live = absurd live
    by phases.Dropped is live = absurd live

same-bound : (s : State) (q x : ℕ) → nat_cmp q x ≡ Equal → is_bound (maps.get s.txs x) ≡ is_bound (maps.get s.txs q)
same-bound s q x e = ap (λ (n : ℕ). is_bound (maps.get s.txs n)) (sym (nat_cmp-IsAntisymmetric q x e))

no-more : (n : ℕ) → n + 0 ≡ n
no-more n = omega arith

pub state-database : (f : Folds) (s : State) → ((tx : ℕ) (t : Txn) → maps.get s.txs tx ≡ Some t → IsLive t.phase) → Joint f (core_of s) → Joint (with_rows_opening f) (core_of (crash_database s))
state-database f s live joint =
    let same : core_database (core_of s) ≡ core_of (crash_database s) = λ i. record {
      commits = s.commits;
      files = s.files;
      copies = s.copies;
      backups = s.backups;
      rows_opening = s.rows_opening + 1;
      links_opening = s.links_opening;
      works = λ q. (database-work s (maps.get s.txs q) (λ t is. live q t is) ∙ ap (work_at s) (sym (get-retain_keys s.txs (λ tx. is_bound (maps.get s.txs tx)) q (same-bound s q)))) i;
      drawn = sym (no-more ((s.rows_opening + 1) * 2 ^ 32)) i;
    } in
    subst (Joint (with_rows_opening f)) same (joint-database f (core_of s) joint)
