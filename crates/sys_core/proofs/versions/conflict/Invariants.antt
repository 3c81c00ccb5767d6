use Rattle.std.proofs.Common.{◌≡◌}
use Rattle.std.specs.Vec.Iter.{into_iter_items}
use Rattle.meaning_system.specs.Claims.{conflict}
use Rattle.sys_core.proofs.versions.conflict.Given as goal

-- what is left conflicts as all do
abbrev pub invariant-loop-name : goal.invariant-loop-name
invariant-loop-name l = conflict l.base l.committed.tables (into_iter_items l.name-iterator) ≡ conflict l.base l.committed.tables l.fn.names
