use Rattle.meaning_merge.proofs.MergeLaws.{merged-moves}
use Rattle.meaning_merge.proofs.laws.a_commit_moves_what_its_transaction_moves.Goals as goal

pub returns : goal.returns
returns c = merged-moves
