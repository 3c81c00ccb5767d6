use Rattle.std.proofs.Common.{sym, ◌∙◌}
use Rattle.sys_core.proofs.Seating.{let-go-none}
use Rattle.sys_core.proofs.engine.Engine.release.Goals as goal

pub returns-then-is_doomed-clause-claims : goal.returns-then-is_doomed-clause-claims
returns-then-is_doomed-clause-claims c =
    let w = c.args.self.now in
    let-go-none c.args.seat c.in-Some.seat w.owners.manager.links.links.opening w.claims.claims c.in-Some.is (sym c.is_doomed.ensures ∙ c.if-is_doomed.true)
