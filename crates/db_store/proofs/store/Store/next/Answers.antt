use Rattle.std.proofs.Common.{[]}
use Rattle.db_store.proofs.Versions.{past_result}
use Rattle.db_store.specs.Log.{commits_from}
use Rattle.db_store.proofs.store.Store.next.Goals as goal

pub returns-clause-committed : goal.returns-clause-committed
returns-clause-committed c = past_result c.next_tables-later.result (commits_from 1 [] c.self.inside.log.entries) c.args.commit c.self.invariant.2 c.next_tables-later.ensures
