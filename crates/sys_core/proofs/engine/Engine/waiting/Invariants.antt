use Rattle.std.proofs.Common.{◌≡◌, ◌++◌, drop, filter, map}
use Rattle.sys_core.specs.Archiving.{waits_in}
use Rattle.sys_core.proofs.engine.Engine.waiting.Given as goal

-- the links so far that wait, and those of the links that are left, are all
abbrev pub invariant-loop-row : goal.invariant-loop-row
invariant-loop-row l = l.made ++ map (λ x. x.link) (filter (waits_in l.self) (drop l.row-index l.rows)) ≡ map (λ x. x.link) (filter (waits_in l.self) l.rows)
