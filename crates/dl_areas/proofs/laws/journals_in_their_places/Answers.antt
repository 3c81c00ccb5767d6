use Rattle.dl_areas.proofs.Places.{with-rows, with-links, with-files, with-archive, with-backups}
use Rattle.dl_areas.proofs.laws.journals_in_their_places.Goals as goal

pub returns-clause-rows : goal.returns-clause-rows
returns-clause-rows c = with-rows

pub returns-clause-links : goal.returns-clause-links
returns-clause-links c = with-links

pub returns-clause-files : goal.returns-clause-files
returns-clause-files c = with-files

pub returns-clause-archive : goal.returns-clause-archive
returns-clause-archive c = with-archive

pub returns-clause-backups : goal.returns-clause-backups
returns-clause-backups c = with-backups
