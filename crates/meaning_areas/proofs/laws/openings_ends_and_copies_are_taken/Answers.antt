use Rattle.meaning_areas.proofs.Taking.{rows-opened, links-opened, rows-ended, copy-taken}
use Rattle.meaning_areas.proofs.laws.openings_ends_and_copies_are_taken.Goals as goal

pub returns-clause-rows : goal.returns-clause-rows
returns-clause-rows c = rows-opened

pub returns-clause-links : goal.returns-clause-links
returns-clause-links c = links-opened

pub returns-clause-ended : goal.returns-clause-ended
returns-clause-ended c = rows-ended

pub returns-clause-copied : goal.returns-clause-copied
returns-clause-copied c = copy-taken
