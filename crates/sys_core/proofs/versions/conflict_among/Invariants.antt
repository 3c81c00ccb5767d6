use Rattle.std.proofs.Common.{◌≡◌, drop}
use Rattle.meaning_system.specs.Claims.{conflict}
use Rattle.sys_core.proofs.versions.conflict_among.Given as goal

-- what is left conflicts as all do
abbrev pub invariant-loop-name : goal.invariant-loop-name
invariant-loop-name l = conflict l.base l.committed.tables (drop l.name-index l.names) ≡ conflict l.base l.committed.tables l.names
