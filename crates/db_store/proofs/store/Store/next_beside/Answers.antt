use Rattle.std.proofs.Common.{[], Option, ap, sym, ◌∙◌}
use Rattle.std.specs.Option.{option_map}
use Rattle.meaning_tables.specs.Tables.{Tables}
use Rattle.db_changes.specs.Touched.{Touched}
use Rattle.db_store.proofs.Versions.{past_committed}
use Rattle.db_store.specs.Log.{commits_from}
use Rattle.db_store.proofs.store.Store.next_beside.Goals as goal

pub returns-in-Some-clause-committed : goal.returns-in-Some-clause-committed
returns-in-Some-clause-committed c =
    past_committed (commits_from 1 [] c.self.inside.log.entries) c.args.commit c.in-Some.tables c.self.invariant.2
    (sym (ap (λ (o : Option (Tables × Touched)). option_map {U = Tables} (λ m. m.0) o) c.in-Some.is) ∙ c.in_ok-tables.ensures.tables)
