-- A STEP THAT IS STOPPED: it writes one record at most, or is a Finish, which leaves what is stored as it was, or is a restore.
use Rattle.std.proofs.Common.{◌≡◌, ℕ, ◌+◌, ◌^◌, ◌<◌, List, [], Bool, true, false, cond, Option, Some, None, is_some, refl, sym, ◌∙◌, ap, subst}
use Rattle.std.specs.FinMap as maps
use Rattle.dl_base.specs.declared.answer.Answer.{Answer}
use Rattle.dl_base.specs.declared.step.Phase.{Phase}
use Rattle.dl_base.specs.declared.step.Phase.TheVariants as phases
use Rattle.dl_base.specs.declared.step.Step.{Step}
use Rattle.dl_base.specs.declared.step.Step.TheVariants as steps
use Rattle.dl_base.specs.declared.step.Target.{Target}
use Rattle.dl_codec.specs.declared.links.BranchPhase.{BranchPhase}
use Rattle.dl_codec.specs.declared.links.BranchPhase.TheVariants as branch_phases
use Rattle.meaning_areas.proofs.Steps.{agrees-of}
use Rattle.meaning_areas.specs.Branches.{branch}
use Rattle.meaning_areas.specs.Commits.{commit_of}
use Rattle.meaning_areas.specs.Finishing.{finish_records}
use Rattle.meaning_areas.specs.Joint.{IsCommitOf, branch_for}
use Rattle.meaning_areas.specs.Lists.{Folds, Written, folds_on}
use Rattle.meaning_areas.specs.Stands.{IsStand, Stored, is_open, kept_of}
use Rattle.meaning_history.proofs.Steps.{have-fits}
use Rattle.meaning_history.specs.Sound.{AreSound}
use Rattle.meaning_opening.proofs.Completing.{FinishStands}
use Rattle.meaning_opening.proofs.Numbering.{FitsNumber}
use Rattle.meaning_opening.proofs.Plain.{false_true}
use Rattle.meaning_opening.specs.Fronts.{FrontsStand}
use Rattle.meaning_settling.specs.Settling.{Moved}
use Rattle.meaning_system.proofs.Leading.{decided-work, txn-there, works-are}
use Rattle.meaning_system.specs.CoreOf.{core_of, work_by}
use Rattle.meaning_system.specs.Following.{AreRestored}
use Rattle.meaning_system.specs.Machine.{step}
use Rattle.meaning_system.specs.State.{State, Txn, has_links, kept_in, moved_of, stored, txn_of}
use Rattle.meaning_system.specs.Writes.{session_writes, txn_writes, when, whole_finish, writes}
use Rattle.sys_recovery.specs.Left.{IsAtomic, left_by}
use Rattle.sys_recovery.proofs.Holding.{Holds, finish-holds, one-holds}
use Rattle.sys_recovery.proofs.Restoring.{JointStands, restore-holds}
use Rattle.sys_recovery.proofs.Shapes.{Shape, finishing, resolving, restoring, shape, single}

module _ (joint_stands : JointStands) (goes_on : FinishStands) (numbers : FitsNumber) (first : ℕ) (f : Folds) (s : State) (sound : AreSound first f s) (stand : IsStand f (stored s)) where
  -- what is stored of what a step has led to
  abbrev left : Step → List Written → Stored
  left x front = stored (left_by s x front)

  -- THE FINISH of a decided transaction
  module _ (session tx : ℕ) (t : Txn) (is : txn_of s session ≡ Some (tx, t)) (decided : t.phase ≡ phases.Decided) where
    abbrev m : Moved
    m = moved_of t

    at : maps.get s.txs tx ≡ Some t
    at = (txn-there s (maps.get s.sessions session) (tx, t) is).0

    -- it has a commit, and a branch in doubt that no Finish has begun
    agrees : IsCommitOf (work_by phases.Decided m) (commit_of tx f.rows.commits) × (p : BranchPhase) × (maps.get f.links.table tx ≡ branch_for (work_by phases.Decided m) p) × (is_open p ≡ true)
    agrees = agrees-of f (core_of s) sound.follows.joint tx (work_by phases.Decided m) (works-are f s sound.follows tx t at (work_by phases.Decided m) (decided-work f s sound.follows tx t at decided))

    committed : is_some (commit_of tx f.rows.commits) ≡ true
    committed = ap is_some agrees.0.at

    whole : has_links m ≡ true → (p : BranchPhase) → maps.get f.links.table tx ≡ branch_for (work_by phases.Decided m) p → is_open p ≡ true → maps.get f.links.table tx ≡ Some (branch m branch_phases.Prepared)
    whole has p there still = by p (there ∙ ap (λ b. cond b (Some (branch m p)) None) has) still
      where
        by : (q : BranchPhase) → maps.get f.links.table tx ≡ Some (branch m q) → is_open q ≡ true → maps.get f.links.table tx ≡ Some (branch m branch_phases.Prepared)
        by branch_phases.Prepared has_it open_at = has_it
        by branch_phases.Committed has_it open_at = absurd (false_true (sym (sound.follows.uncut tx (branch m branch_phases.Committed) has_it)))
        by branch_phases.Done has_it open_at = absurd (false_true open_at)
        by branch_phases.Aborted has_it open_at = absurd (false_true open_at)

    -- the files and copies of the lists are the state's
    same-records : finish_records tx branch_phases.Prepared m (kept_of f) ≡ finish_records tx branch_phases.Prepared m (kept_in s)
    same-records = λ i. finish_records tx branch_phases.Prepared m (record { files = sound.follows.joint.files i; copies = sound.follows.joint.copies i; held = f.links.held })

    whole-holds : Holds f (whole_finish tx m (kept_in s)) (left (steps.Finish session))
    whole-holds = by (has_links m) refl
      where
        by : (b : Bool) → has_links m ≡ b → Holds f (when b (finish_records tx branch_phases.Prepared m (kept_in s))) (left (steps.Finish session))
        by true has =
            finish-holds f tx m (kept_in s) s (step s (steps.Finish session)).1
            (subst (λ (xs : List Written). FrontsStand f xs (stored s)) same-records
            (goes_on f (stored s) tx m branch_phases.Prepared stand committed (whole has agrees.1 agrees.2 agrees.3) refl (numbers s (have-fits first s sound.history) tx t at)))
        by false none = one-holds f [] (left (steps.Finish session)) stand tt

  session-holds : (n : ℕ) (answer : Answer) (o : Option (ℕ × Txn)) → txn_of s n ≡ o → Holds f (session_writes s (steps.Finish n) answer o) (left (steps.Finish n))
  session-holds n answer None is = one-holds f [] (left (steps.Finish n)) stand tt
  session-holds n answer (Some e) is = by e.1.phase refl
    where
      by : (p : Phase) → e.1.phase ≡ p → Holds f (txn_writes s (steps.Finish n) e.0 e.1 p answer) (left (steps.Finish n))
      by phases.Decided decided = whole-holds n e.0 e.1 is decided
      by _ other = one-holds f [] (left (steps.Finish n)) stand tt

  -- EACH STEP BUT RESOLVE
  pub stopped : s.drawn + 1 < 2 ^ 32 → (x : Step) → IsAtomic x → ((t : Target) → x ≡ steps.Restore t → AreRestored s t) → (later : Folds) × (folds_on (Some f) (writes s x) ≡ Some later) → Holds f (writes s x) (left x)
  unfolding writes
  stopped small x atomic owed on = by (shape s x)
    where
      by : Shape s x → Holds f (writes s x) (left x)
      by (single one) = one-holds f (writes s x) (left x) stand one
      by (finishing n is) = subst (λ (y : Step). Holds f (writes s y) (left y)) (sym is) (session-holds n (step s (steps.Finish n)).0 (txn_of s n) refl)
      by (restoring t is) = subst (λ (y : Step). Holds f (writes s y) (left y)) (sym is)
          (restore-holds joint_stands goes_on first f s sound stand small t (owed t is) (subst (λ (y : Step). (later : Folds) × (folds_on (Some f) (writes s y) ≡ Some later)) is on))
      by (resolving is) = absurd (subst IsAtomic is atomic)
