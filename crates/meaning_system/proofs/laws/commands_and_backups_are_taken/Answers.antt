use Rattle.meaning_areas.proofs.FilesLaws.{file-written, file-deleted, file-renamed, file-owned}
use Rattle.meaning_system.proofs.Records.{command-taken, backup-taken}
use Rattle.meaning_system.proofs.laws.commands_and_backups_are_taken.Goals as goal

pub returns-clause-commands : goal.returns-clause-commands
returns-clause-commands c = command-taken

pub returns-clause-written : goal.returns-clause-written
returns-clause-written c files user path bytes f at = file-written files user path f at bytes

pub returns-clause-deleted : goal.returns-clause-deleted
returns-clause-deleted c = file-deleted

pub returns-clause-renamed : goal.returns-clause-renamed
returns-clause-renamed c files user path to f at = file-renamed files user path f at to

pub returns-clause-owned : goal.returns-clause-owned
returns-clause-owned c files user path f on at = file-owned files user path f at on

pub returns-clause-backups : goal.returns-clause-backups
returns-clause-backups c = backup-taken
