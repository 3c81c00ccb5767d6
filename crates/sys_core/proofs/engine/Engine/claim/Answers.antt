use Rattle.std.proofs.Common.{sym, ◌∙◌}
use Rattle.sys_core.proofs.Asking.{ends-alike, ends-claimed, ends-denied, ends-left}
use Rattle.sys_core.proofs.engine.Engine.claim.Goals as goal

pub returns-then-left_tables-clause-ends : goal.returns-then-left_tables-clause-ends
returns-then-left_tables-clause-ends c = ends-left c.args.self.now c.args.tx c.args.txn.now c.left_tables.result c.left_tables.ensures c.if-left_tables.true

pub returns-then-has_claimed-clause-ends : goal.returns-then-has_claimed-clause-ends
returns-then-has_claimed-clause-ends c =
    ends-alike c.args.self.now c.args.tx c.args.txn.now c.left_tables.result c.left_tables.ensures c.in_ok-gives.gives c.in_ok-gives.takes c.in_ok-gives.ensures.0 c.in_ok-gives.ensures.1 c.has_claimed.result c.has_claimed.ensures
    c.if-left_tables.false c.if-has_claimed.true

pub returns-in-Some-clause-ends : goal.returns-in-Some-clause-ends
returns-in-Some-clause-ends c =
    ends-denied c.args.self.now c.args.tx c.args.txn.now c.left_tables.result c.left_tables.ensures c.in_ok-gives.gives c.in_ok-gives.takes c.in_ok-gives.ensures.0 c.in_ok-gives.ensures.1 c.has_claimed.result c.has_claimed.ensures
    c.if-left_tables.false c.if-has_claimed.false c.in-Some.refusal (sym c.in-Some.is ∙ c.in_ok-refusal.ensures)

pub returns-clause-ends : goal.returns-clause-ends
returns-clause-ends c =
    ends-claimed c.args.self.now c.args.tx c.args.txn.now c.left_tables.result c.left_tables.ensures c.in_ok-gives.gives c.in_ok-gives.takes c.in_ok-gives.ensures.0 c.in_ok-gives.ensures.1 c.has_claimed.result c.has_claimed.ensures
    c.if-left_tables.false c.if-has_claimed.false (sym c.in_default.is ∙ c.in_ok-refusal.ensures) c.put_claim.new.self c.in_ok-put_claim.ensures.ok

pub claim_refusal-requires-clause-gives : goal.claim_refusal-requires-clause-gives
claim_refusal-requires-clause-gives c = c.in_ok-gives.ensures.0

pub claim_refusal-requires-clause-takes : goal.claim_refusal-requires-clause-takes
claim_refusal-requires-clause-takes c = c.in_ok-gives.ensures.1
