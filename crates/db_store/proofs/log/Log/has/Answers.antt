use Rattle.std.proofs.Common.{[], is_some, nat_eq, sym, ap, ◌∙◌}
use Rattle.std.specs.Map.{lookup}
use Rattle.meaning_areas.specs.Commits.{commit_of}
use Rattle.db_store.specs.Log.{Log, commits_from}
use Rattle.db_store.proofs.Known.{has_known}
use Rattle.db_store.proofs.LogLaws.{has_entry}
use Rattle.db_store.proofs.log.Log.has.Goals as goal

pub returns-clause-entry : goal.returns-clause-entry
returns-clause-entry c =
    has_known c.self.inside.branches c.self.inside.entries.items c.args.tx c.contains_key.result c.self.invariant c.contains_key.ensures
    ∙ ap (λ (l : Log). is_some (lookup (λ k. nat_eq c.args.tx k) l.entries)) c.self.view_is

pub returns-clause-commit : goal.returns-clause-commit
returns-clause-commit c =
    has_known c.self.inside.branches c.self.inside.entries.items c.args.tx c.contains_key.result c.self.invariant c.contains_key.ensures
    ∙ sym (has_entry c.args.tx c.self.inside.entries.items)
    ∙ ap (λ (l : Log). is_some (commit_of c.args.tx (commits_from 1 [] l.entries))) c.self.view_is
