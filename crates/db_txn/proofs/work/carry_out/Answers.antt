use Rattle.std.proofs.Common.{ℕ, List, subst}
use Rattle.db_txn.specs.Working.{AddsRows}
use Rattle.db_txn.proofs.Working.{works}
use Rattle.db_txn.proofs.work.carry_out.Goals as goal

pub returns-in-Ok-clause-work : goal.returns-in-Ok-clause-work
returns-in-Ok-clause-work c = λ base was.
    works base c.args.work.now.copy c.evaluate.new.tables c.args.work.now.next c.evaluate.new.next_link c.args.work.now.touched c.put_touched-put.new.touched c.in_ok-outcome.field-0.touched
    c.args.stmt.now c.args.context.now c.in_ok-outcome.field-0.outcome c.in_ok-outcome.ensures.exact
    (subst (λ (ns : List ℕ). AddsRows c.args.stmt.now ns c.args.work.now.touched c.put_touched-put.new.touched) c.as_slice.ensures c.in-Ok.ensures)
    c.distinct.ensures c.in_ok-outcome.ensures.beside c.evaluate.ensures.rows c.evaluate.ensures.few was
