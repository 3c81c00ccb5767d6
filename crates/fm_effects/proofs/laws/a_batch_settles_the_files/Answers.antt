use Rattle.fm_effects.proofs.BatchLaws.{settles}
use Rattle.fm_effects.proofs.laws.a_batch_settles_the_files.Goals as goal

pub returns : goal.returns
returns c m k = settles m k (c.settling_path_by_path.ensures.files m k)
