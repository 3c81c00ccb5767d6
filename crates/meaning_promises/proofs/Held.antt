-- A vote is in Links until its transaction ends.
use Rattle.std.proofs.Common.{◌≡◌, ℕ, Bool, true, false, cond, Option, Some, None, refl, sym, ◌∙◌, ap, subst}
use Rattle.std.specs.FinMap as maps
use Rattle.dl_base.specs.declared.step.Phase.{Phase}
use Rattle.dl_base.specs.declared.step.Phase.TheVariants as phases
use Rattle.dl_codec.specs.declared.links.BranchPhase.{BranchPhase}
use Rattle.dl_codec.specs.declared.links.BranchPhase.TheVariants as branch_phases
use Rattle.meaning_areas.proofs.Steps.{agrees-of}
use Rattle.meaning_areas.specs.Branches.{Branch, branch}
use Rattle.meaning_areas.specs.Commits.{commit_of}
use Rattle.meaning_areas.specs.Joint.{IsCommitOf, branch_for}
use Rattle.meaning_areas.specs.Lists.{Folds}
use Rattle.meaning_areas.specs.Stands.{is_open}
use Rattle.meaning_history.specs.Sound.{AreSound}
use Rattle.meaning_settling.proofs.KeyedLaws.{false_true}
use Rattle.meaning_settling.specs.Settling.{Moved}
use Rattle.meaning_system.proofs.Leading.{decided-work, prepared-agrees, works-are}
use Rattle.meaning_system.specs.CoreOf.{IsLive, core_of, work_by}
use Rattle.meaning_system.specs.State.{State, Txn, has_links, is_active, moved_of}

-- the branch in doubt of what a transaction moves, where that has links
abbrev pub voted_branch : Bool → Moved → Option Branch
voted_branch has m = cond has (Some (branch m branch_phases.Prepared)) None

module _ (first : ℕ) (f : Folds) (s : State) (sound : AreSound first f s) (tx : ℕ) (t : Txn) (at : maps.get s.txs tx ≡ Some t) where
  abbrev IsHeld : Type 0
  IsHeld = maps.get f.links.table tx ≡ voted_branch (has_links (moved_of t)) (moved_of t)

  -- a decided one: no Finish has begun
  module _ (decided : t.phase ≡ phases.Decided) where
    agrees : IsCommitOf (work_by phases.Decided (moved_of t)) (commit_of tx f.rows.commits) × (p : BranchPhase) × (maps.get f.links.table tx ≡ branch_for (work_by phases.Decided (moved_of t)) p) × (is_open p ≡ true)
    agrees = agrees-of f (core_of s) sound.follows.joint tx (work_by phases.Decided (moved_of t)) (works-are f s sound.follows tx t at (work_by phases.Decided (moved_of t)) (decided-work f s sound.follows tx t at decided))

    by-links : (has : Bool) (p : BranchPhase) → maps.get f.links.table tx ≡ cond has (Some (branch (moved_of t) p)) None → is_open p ≡ true → maps.get f.links.table tx ≡ voted_branch has (moved_of t)
    by-links false p there still = there
    by-links true branch_phases.Prepared there still = there
    by-links true branch_phases.Committed there still = absurd (false_true (sym (sound.follows.uncut tx (branch (moved_of t) branch_phases.Committed) there)))
    by-links true branch_phases.Done there still = absurd (false_true still)
    by-links true branch_phases.Aborted there still = absurd (false_true still)

    decided-held : IsHeld
    decided-held = by-links (has_links (moved_of t)) agrees.1 agrees.2 agrees.3

  pub held : is_active t.phase ≡ false → IsHeld
  held voted = by t.phase refl
    where
      by : (p : Phase) → t.phase ≡ p → IsHeld
      by phases.Active is = absurd (false_true (sym voted ∙ ap is_active is))
      by phases.Prepared is = (prepared-agrees f s sound.follows tx t at is).1
      by phases.Decided is = decided-held is
      by phases.Finished is = absurd (subst IsLive is (sound.claims.live tx t at))
      by phases.Dropped is = absurd (subst IsLive is (sound.claims.live tx t at))

  pub held-linked : is_active t.phase ≡ false → has_links (moved_of t) ≡ true → maps.get f.links.table tx ≡ Some (branch (moved_of t) branch_phases.Prepared)
  held-linked voted has = held voted ∙ ap (λ b. voted_branch b (moved_of t)) has

  pub held-plain : is_active t.phase ≡ false → has_links (moved_of t) ≡ false → maps.get f.links.table tx ≡ None
  held-plain voted none = held voted ∙ ap (λ b. voted_branch b (moved_of t)) none
