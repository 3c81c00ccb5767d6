use Rattle.std.proofs.Common.{◌≡◌, ◌++◌, ◌-◌, length, true, false, sym, ap, ◌∙◌, arith}
use Rattle.std.specs.Option.{option_copied, option_to_list}
use Rattle.std.specs.Prelude.{slice_get}
use Rattle.sql_precedence.proofs.Stacks.{bound_after, bound_last, unbound_last, stack_push}
use Rattle.sql_precedence.proofs.machine.pop_bound.Goals.{in_default-via-in-Some+else-binds, in_default-via-in_default}
use Rattle.sql_precedence.proofs.machine.pop_bound.Goals as goal

pub returns-in-Some-clause-some : goal.returns-in-Some-clause-some
returns-in-Some-clause-some c = λ x is last.
    let frames = c.args.frames.now.items in
    let bound : bound_after c.args.low (slice_get frames (length frames - 1)) ≡ true =
    ap (λ xs. bound_after c.args.low (slice_get xs (length xs - 1))) (sym c.deref.ensures.value)
    ∙ ap (bound_after c.args.low) (sym c.last.ensures.value ∙ ap option_copied c.in-Some.is) ∙ sym c.binds.ensures ∙ c.if-binds.true in
    bound_last c.args.low frames c.pop.new.self.items x last
    (c.pop.ensures.items ∙ ap (λ o. c.pop.new.self.items ++ option_to_list o) is) bound

pub returns-in_default-clause-none : goal.returns-in_default-clause-none
returns-in_default-clause-none c = λ _ last.
    let frames = c.args.frames.now.items in
    let seen : bound_after c.args.low (slice_get frames (length frames - 1)) ≡ bound_after c.args.low (option_copied c.last.result) =
    ap (λ xs. bound_after c.args.low (slice_get xs (length xs - 1))) (sym c.deref.ensures.value) ∙ ap (bound_after c.args.low) (sym c.last.ensures.value) in
    let free : bound_after c.args.low (option_copied c.last.result) ≡ false =
    elim c.in_default.branch [
      | in_default-via-in-Some+else-binds w ↦ ap (λ o. bound_after c.args.low (option_copied o)) w.in-Some.is ∙ sym w.binds.ensures ∙ w.if-binds.false
      | in_default-via-in_default w ↦ ap (λ o. bound_after c.args.low (option_copied o)) w.in_default.is
    ] in
    unbound_last c.args.low frames last (seen ∙ free)

pub returns-in-Some-clause-fewer : goal.returns-in-Some-clause-fewer
returns-in-Some-clause-fewer c = grind (arith, stack_push)

pub returns-in_default-clause-fewer : goal.returns-in_default-clause-fewer
returns-in_default-clause-fewer c = grind (arith, stack_push)

pub returns-in_default-clause-some : goal.returns-in_default-clause-some
returns-in_default-clause-some c = grind (arith, stack_push)

pub returns-in-Some-clause-none : goal.returns-in-Some-clause-none
returns-in-Some-clause-none c = grind (arith, stack_push)
