use Rattle.std.proofs.Common.{ℕ, Bool, Option, None, ap, arith}
use Rattle.std.specs.Option.{option_map}
use Rattle.db_store.proofs.LogLaws.{at_back}
use Rattle.db_store.specs.declared.log.Entry.{Entry}
use Rattle.db_store.proofs.log.Log.commit_at.Goals as goal

pub returns-in-Some : goal.returns-in-Some
returns-in-Some c =
    at_back c.args.self.now.entries c.args.commit _ (omega (arith, c.if-commit-eq0.false))
    (ap (λ (o : Option (ℕ × Entry)). option_map {U = ℕ × Bool} (λ e. (e.0, e.1.branch)) o) c.in-Some.ensures.value)

pub returns-in-None : goal.returns-in-None
returns-in-None c =
    at_back c.args.self.now.entries c.args.commit None (omega (arith, c.if-commit-eq0.false))
    (ap (λ (o : Option (ℕ × Entry)). option_map {U = ℕ × Bool} (λ e. (e.0, e.1.branch)) o) c.in-None.ensures.value)
