use Rattle.std.proofs.Common.{◌≡◌, [], Some, None, nat_eq, ap, ◌∙◌, rules}
use Rattle.std.specs.HashMap.{get}
use Rattle.meaning_areas.specs.Commits.{commit_of}
use Rattle.db_store.specs.Log.{Log, commits_from, has_branch}
use Rattle.db_store.proofs.LogLaws.{branch_back}
use Rattle.db_store.proofs.log.Log.has_branch.Goals as goal

pub returns-in-Some : goal.returns-in-Some
returns-in-Some c =
    let value : Some c.in-Some.branch.now ≡ get nat_eq c.self.inside.branches c.args.tx = search rules in
    branch_back c.args.tx c.self.inside.entries.items (Some c.in-Some.branch.now) (value ∙ c.self.invariant c.args.tx)
    ∙ ap (λ (l : Log). has_branch (commit_of c.args.tx (commits_from 1 [] l.entries))) c.self.view_is

pub returns-in-None : goal.returns-in-None
returns-in-None c =
    let value : None ≡ get nat_eq c.self.inside.branches c.args.tx = search rules in
    branch_back c.args.tx c.self.inside.entries.items None (value ∙ c.self.invariant c.args.tx)
    ∙ ap (λ (l : Log). has_branch (commit_of c.args.tx (commits_from 1 [] l.entries))) c.self.view_is
