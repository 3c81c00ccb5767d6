use Rattle.meaning_areas.proofs.Made.{rows-made}
use Rattle.meaning_areas.proofs.laws.commits_have_what_they_moved.Goals as goal

pub returns : goal.returns
returns c = rows-made
