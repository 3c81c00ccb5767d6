use Rattle.db_changes.proofs.Leading.{distinct-named}
use Rattle.db_changes.proofs.Nothing.{nothing-changed}
use Rattle.db_changes.proofs.laws.no_handles_where_nothing_changed.Goals as goal

pub returns-clause-named : goal.returns-clause-named
returns-clause-named c = nothing-changed

pub returns-clause-distinct : goal.returns-clause-distinct
returns-clause-distinct c base copy named of = nothing-changed base copy (distinct-named base named) of
