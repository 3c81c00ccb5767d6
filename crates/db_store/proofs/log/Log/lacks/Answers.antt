use Rattle.std.proofs.Common.{[]}
use Rattle.meaning_areas.specs.Commits.{commit_of}
use Rattle.db_store.specs.Log.{commits_from}
use Rattle.db_store.proofs.LogLaws.{lacking}
use Rattle.db_store.proofs.log.Log.lacks.Goals as goal

pub returns : goal.returns
returns c = lacking c.has.result (commit_of c.args.tx (commits_from 1 [] c.args.self.now.entries)) c.has.ensures.commit
