-- The turns of a script take steps of the machine.
use Rattle.std.proofs.Common.{◌≡◌, ℕ, zero, suc, List, [], ◌∷◌, ◌++◌, refl, sym, ◌∙◌, ap}
use Rattle.dl_base.specs.declared.step.Step.{Step}
use Rattle.meaning_run.specs.Running.{Read, Run, after, comes_to, met, next_step, step_in, step_on, turn, turn_on, turned}
use Rattle.meaning_script.specs.Expansion.{Then, answered, does, given, silent}
use Rattle.meaning_system.specs.Machine.{run, step}
use Rattle.meaning_system.specs.State.{State}
use Rattle.meaning_serial.specs.Scripts.{step_list, steps_in}

run-append : (xs ys : List Step) (s : State) → (run s (xs ++ ys)).1 ≡ (run (run s xs).1 ys).1
run-append [] ys s = refl
run-append (x ∷ xs) ys s = run-append xs ys (step s x).1

by-then : (r : Run) (l : Read) (more : List Read) (t : Then) → (turned (met r l.actor) l more t).state ≡ (run r.state (step_list (step_in t))).1
by-then r l more (does x) = refl
by-then r l more (given k) = refl
by-then r l more (answered a) = refl
by-then r l more silent = refl

by-lines : (r : Run) (lines : List Read) → (turn_on r lines).state ≡ (run r.state (step_list (step_on r lines))).1
by-lines r [] = refl
by-lines r (l ∷ more) = by-then r l more (comes_to r l)

one-turn : (r : Run) → (turn r).state ≡ (run r.state (step_list (next_step r))).1
unfolding turn
one-turn r = by-lines r r.lines

pub turns : (n : ℕ) (r : Run) → (after n r).state ≡ (run r.state (steps_in n r)).1
turns zero r = refl
turns (suc n) r =
    turns n (turn r) ∙ ap (λ (s : State). (run s (steps_in n (turn r))).1) (one-turn r)
    ∙ sym (run-append (step_list (next_step r)) (steps_in n (turn r)) r.state)
