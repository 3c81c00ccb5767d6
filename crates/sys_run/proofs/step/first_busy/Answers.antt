use Rattle.std.proofs.Common.{Some, position, sym, ap, ◌∙◌}
use Rattle.sys_run.proofs.Restoring.{busy-some, first-busy, none-busy}
use Rattle.sys_run.proofs.step.first_busy.Goals as goal
use Rattle.sys_run.specs.Sessions.{has_txn}

pub returns-in_err-at : goal.returns-in_err-at
returns-in_err-at c s shown = none-busy s c.args.txns.now shown (ap (position has_txn) (sym c.as_slice.ensures) ∙ sym c.first_with_txn.ensures ∙ c.in_err-at.was) ∙ sym c.from_residual.ensures

pub returns-in-Some : goal.returns-in-Some
returns-in-Some c s shown =
    first-busy s c.args.txns.now shown c.in_ok-at.at (ap (position has_txn) (sym c.as_slice.ensures) ∙ sym c.first_with_txn.ensures ∙ c.in_ok-at.was) c.in-Some.txn.now (sym c.in-Some.ensures) ∙ ap Some (sym c.session.ensures)

pub returns-in-None : goal.returns-in-None
returns-in-None c s shown = busy-some s c.args.txns.now shown c.in_ok-at.at (ap (position has_txn) (sym c.as_slice.ensures) ∙ sym c.first_with_txn.ensures ∙ c.in_ok-at.was) (sym c.in-None.ensures)
