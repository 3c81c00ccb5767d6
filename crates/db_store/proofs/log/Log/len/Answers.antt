use Rattle.std.proofs.Common.{◌≡◌, [], length, sym, ◌∙◌, rules}
use Rattle.db_store.proofs.LogLaws.{length-commits}
use Rattle.db_store.proofs.log.Log.len.Goals as goal

pub returns-clause-commits : goal.returns-clause-commits
returns-clause-commits c =
    let entries : c.len.result ≡ length c.args.self.now.entries = search rules in
    entries ∙ sym (length-commits 1 [] c.args.self.now.entries)
