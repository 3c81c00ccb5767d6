use Rattle.std.proofs.Common.{◌≡◌, drop}
use Rattle.meaning_system.specs.Claims.{with_names}
use Rattle.db_txn.specs.Naming.{names_of}
use Rattle.db_txn.proofs.names.put_sources.Given as goal

abbrev pub invariant-loop-source : goal.invariant-loop-source
invariant-loop-source l = with_names l.names (names_of (drop l.source-index l.from)) ≡ with_names l.fn.names (names_of l.from)
