use Rattle.fm_effects.proofs.ReadLaws.{changes-agree, copies-written}
use Rattle.fm_effects.proofs.Settled.{settled-copies}
use Rattle.fm_effects.proofs.laws.a_finish_reads_its_paths_and_numbers.Goals as goal

pub returns-clause-changes : goal.returns-clause-changes
returns-clause-changes c m k l agree = changes-agree m k l agree (settled-copies c.settling_path_by_path.ensures.copies m)

pub returns-clause-copies : goal.returns-clause-copies
returns-clause-copies c = copies-written
