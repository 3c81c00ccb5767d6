use Rattle.std.proofs.Common.{[]}
use Rattle.db_store.proofs.Versions.{past_result}
use Rattle.db_store.specs.Log.{commits_from}
use Rattle.db_store.proofs.store.Store.past.Goals as goal

pub returns-clause-committed : goal.returns-clause-committed
returns-clause-committed c = past_result c.past_tables.result (commits_from 1 [] c.self.inside.log.entries) c.args.commit c.self.invariant.2 c.past_tables.ensures
