use Rattle.meaning_merge.proofs.Touched.{merge-touches}
use Rattle.meaning_merge.proofs.laws.a_commit_without_conflict_touches_what_it_saw.Goals as goal

pub returns : goal.returns
returns c = merge-touches
