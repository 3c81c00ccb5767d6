use Rattle.std.proofs.Common.{[], refl, subst, sym}
use Rattle.meaning_tables.specs.Tables.{Tables}
use Rattle.db_changes.specs.Touched.{AreCommitted}
use Rattle.db_store.proofs.Versions.{after-committed}
use Rattle.db_store.specs.Log.{commits_from}
use Rattle.db_store.proofs.store.Store.committed.Goals as goal

pub returns-clause-committed : goal.returns-clause-committed
returns-clause-committed c = subst (λ (ts : Tables). AreCommitted ts) (sym c.self.invariant.1) (after-committed [] (commits_from 1 [] c.self.inside.log.entries) refl c.self.invariant.2)
