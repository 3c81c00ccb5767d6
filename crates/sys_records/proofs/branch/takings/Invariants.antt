use Rattle.std.proofs.Common.{◌≡◌, ◌++◌, map}
use Rattle.std.specs.Vec.Iter.{into_iter_items}
use Rattle.meaning_system.specs.Writes.{taken_by}
use Rattle.sys_records.proofs.branch.takings.Given as goal

-- the takes so far, and those of the links that are left
abbrev pub invariant-loop-link : goal.invariant-loop-link
invariant-loop-link l = l.made ++ map (taken_by l.fill) (into_iter_items l.link-iterator) ≡ map (taken_by l.fill) l.takes
