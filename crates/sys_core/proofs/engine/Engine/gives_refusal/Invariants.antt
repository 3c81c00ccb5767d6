use Rattle.std.proofs.Common.{◌≡◌, drop}
use Rattle.sys_core.specs.Claiming.{gives_refusal_in}
use Rattle.sys_core.proofs.engine.Engine.gives_refusal.Given as goal

-- what is left is refused as all are
abbrev pub invariant-loop-give : goal.invariant-loop-give
invariant-loop-give l = gives_refusal_in l.self l.tx (drop l.give-index l.gives) ≡ gives_refusal_in l.self l.tx l.gives
