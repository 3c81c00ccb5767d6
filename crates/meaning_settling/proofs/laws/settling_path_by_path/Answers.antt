use Rattle.meaning_settling.proofs.PartLaws.{get-files, get-copies, get-held}
use Rattle.meaning_settling.specs.Settling.{settle_one}
use Rattle.meaning_settling.proofs.laws.settling_path_by_path.Goals as goal

pub returns-clause-files : goal.returns-clause-files
unfolding settle_one
returns-clause-files c m k p = get-files m k p

pub returns-clause-copies : goal.returns-clause-copies
returns-clause-copies c = get-copies

pub returns-clause-held : goal.returns-clause-held
returns-clause-held c = get-held
