use Rattle.std.proofs.Common.{◌≡◌, ◌-◌, ℕ, List, length, Some, ◌∙◌, ap, arith}
use Rattle.std.specs.Prelude.{slice_get}
use Rattle.dl_journal.proofs.Records.{last_is, last_fits}
use Rattle.dl_journal.proofs.parse.last_gate.Goals as goal

pub overflow_sub-result-2 : goal.overflow_sub-result-2
overflow_sub-result-2 c =
    let there : Some c.in_ok-last.last.now ≡ slice_get c.args.bodies.now (length c.args.bodies.now - 1) = c.in_ok-last.ensures.value ∙ ap (λ (l : List (List ℕ)). slice_get l (length l - 1)) c.as_slice.ensures in
    omega (arith, c.len.ensures, c.requires, last_fits c.args.bodies.now c.in_ok-last.last.now there)

pub returns-clause-is : goal.returns-clause-is
returns-clause-is c = λ front last is.
    let there : Some c.in_ok-last.last.now ≡ slice_get c.args.bodies.now (length c.args.bodies.now - 1) = c.in_ok-last.ensures.value ∙ ap (λ (l : List (List ℕ)). slice_get l (length l - 1)) c.as_slice.ensures in
    ap (λ (n : ℕ). Some n) (omega (arith, c.len.ensures, c.requires, last_is c.args.bodies.now c.in_ok-last.last.now there front last is))
