use Rattle.sys_core.proofs.Voting.{never-none, seat-found}
use Rattle.sys_core.proofs.engine.Engine.vote_refusal.Goals as goal

pub returns-in-Some : goal.returns-in-Some
returns-in-Some c first s t is at =
    c.refusal_of.ensures first s c.args.tx t is (seat-found first c.args.self.now s c.args.tx t c.in-Some.seat.now is at c.in-Some.ensures)

pub returns-in-None : goal.returns-in-None
returns-in-None c first s t is at = absurd (never-none first c.args.self.now s c.args.tx t is at c.in-None.ensures)
