use Rattle.run_print.proofs.refusals.put_claim_refusal.Goals as goal

pub returns-in-AlreadyLinked : goal.returns-in-AlreadyLinked
returns-in-AlreadyLinked c = rw c.in-AlreadyLinked.is c.put_linked.ensures
