use Rattle.meaning_merge.proofs.Merged.{merges}
use Rattle.meaning_merge.proofs.laws.a_commit_without_conflict_merges.Goals as goal

pub returns : goal.returns
returns c first cs tx base copy names next history txn current bs rows_opening links_opening k whole claimed = merges first cs tx base copy names next history txn current bs rows_opening links_opening k whole claimed
