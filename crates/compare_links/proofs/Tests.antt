-- The tests of branches.
use Rattle.std.proofs.Common.{◌≡◌, ℕ, ◌/◌, ◌^◌, Bool, true, false, not, ◌&&◌, ◌||◌, nat_le, Option, Some, None, is_some, refl, sym, ap, subst, ◌∙◌}
use Rattle.std.proofs.lemmas.Bool.{and_parts, and_from}
use Rattle.std.specs.Bool.{Decides}
use Rattle.dl_codec.specs.declared.links.BranchPhase.{BranchPhase}
use Rattle.dl_codec.specs.declared.links.BranchPhase.TheVariants as phases
use Rattle.meaning_areas.specs.Branches.{Branch, branch, is_phase}
use Rattle.meaning_areas.specs.Commits.{Commits, commit_of}
use Rattle.meaning_areas.specs.Stands.{is_past}
use Rattle.meaning_settling.specs.Settling.{Moved}
use Rattle.compare_every.proofs.Deciding.{false_true, some_none, some_same}
use Rattle.compare_links.proofs.LinkLists.{drawn-decides, le-decides}
use Rattle.compare_links.specs.Fitting.{BranchFits, IsDoneAt, are_drawn, branch_fits, is_done_at}
use Rattle.compare_links.specs.Walking.{IfThere}

-- a branch

or-then : (a b : Bool) → (not a || b) ≡ true → a ≡ true → b ≡ true
or-then true b e f = e
or-then false b e f = absurd (false_true f)

then-or : (a b : Bool) → (a ≡ true → b ≡ true) → (not a || b) ≡ true
then-or true b f = f refl
then-or false b f = refl

pub branch-decides : (r : Commits) (tx : ℕ) (b : Branch) → Decides (branch_fits r tx b) (BranchFits r tx b)
branch-decides r tx b = (to, from)
  where
    to : branch_fits r tx b ≡ true → BranchFits r tx b
    to e =
        let three = and_parts ((not (is_past b.phase) || is_some (commit_of tx r.commits)) && nat_le (tx / 2 ^ 32) r.opening && are_drawn r.opening b.moved.gives) (are_drawn r.opening b.moved.takes) e in
        let two = and_parts ((not (is_past b.phase) || is_some (commit_of tx r.commits)) && nat_le (tx / 2 ^ 32) r.opening) (are_drawn r.opening b.moved.gives) three.0 in
        let one = and_parts (not (is_past b.phase) || is_some (commit_of tx r.commits)) (nat_le (tx / 2 ^ 32) r.opening) two.0 in
        record {
          decided = or-then (is_past b.phase) (is_some (commit_of tx r.commits)) one.0;
          number = (le-decides (tx / 2 ^ 32) r.opening).0 one.1;
          gives = (drawn-decides r.opening b.moved.gives (are_drawn r.opening b.moved.gives) refl).0 two.1;
          takes = (drawn-decides r.opening b.moved.takes (are_drawn r.opening b.moved.takes) refl).0 three.1;
        }

    from : BranchFits r tx b → branch_fits r tx b ≡ true
    from fits =
        and_from ((not (is_past b.phase) || is_some (commit_of tx r.commits)) && nat_le (tx / 2 ^ 32) r.opening && are_drawn r.opening b.moved.gives) (are_drawn r.opening b.moved.takes)
        (and_from ((not (is_past b.phase) || is_some (commit_of tx r.commits)) && nat_le (tx / 2 ^ 32) r.opening) (are_drawn r.opening b.moved.gives)
        (and_from (not (is_past b.phase) || is_some (commit_of tx r.commits)) (nat_le (tx / 2 ^ 32) r.opening) (then-or (is_past b.phase) (is_some (commit_of tx r.commits)) fits.decided) ((le-decides (tx / 2 ^ 32) r.opening).1 fits.number))
        ((drawn-decides r.opening b.moved.gives (are_drawn r.opening b.moved.gives) refl).1 fits.gives))
        ((drawn-decides r.opening b.moved.takes (are_drawn r.opening b.moved.takes) refl).1 fits.takes)

pub there-decides : (P : Branch → Type 0) (b : Branch) (o : Option Branch) (t : Bool) → o ≡ Some b → Decides t (P b) → Decides t (IfThere P o)
there-decides P b o t is decides = (
  λ e x at. subst P (some_same b x (sym is ∙ at)) (decides.0 e),
  λ each. decides.1 (each b is),
)

-- what has ended

phase-is : (p : BranchPhase) → is_phase p phases.Done ≡ true → p ≡ phases.Done
phase-is phases.Prepared e = absurd (false_true e)
phase-is phases.Committed e = absurd (false_true e)
phase-is phases.Done e = refl
phase-is phases.Aborted e = absurd (false_true e)

pub done-decides : (ended : Bool) (o : Option Branch) → Decides (is_done_at ended o) (IsDoneAt ended o)
done-decides false None = (λ _ e. absurd (false_true e), λ _. refl)
done-decides true None = (λ e. absurd (false_true e), λ done. absurd (never (done refl)))
  where
    never : (m : Moved) × (None ≡ Some (branch m phases.Done)) → ⊥
    never m = some_none None (branch m.0 phases.Done) refl m.1
done-decides false (Some b) = (λ _ e. absurd (false_true e), λ _. refl)
done-decides true (Some b) = (
  λ e _. (b.moved, (λ i. Some (record { moved = b.moved; phase = phase-is b.phase e i }))),
  λ done. ap (λ (x : Branch). is_phase x.phase phases.Done) (some_same b (branch (done refl).0 phases.Done) (done refl).1),
)
