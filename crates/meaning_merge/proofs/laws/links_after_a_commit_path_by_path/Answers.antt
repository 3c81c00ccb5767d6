use Rattle.meaning_merge.proofs.MovedLaws.{moved-paths}
use Rattle.meaning_merge.proofs.laws.links_after_a_commit_path_by_path.Goals as goal

pub returns : goal.returns
returns c before after p one one_after same back = moved-paths before after one one_after same back p
