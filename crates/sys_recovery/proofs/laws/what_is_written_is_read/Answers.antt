use Rattle.sys_recovery.proofs.Reading.{Sound, lists-stand, more-folded}
use Rattle.sys_recovery.proofs.laws.what_is_written_is_read.Goals as goal

sound : goal.After-rows_records_have_one_spelling → Sound
sound c = record {
  rows = c.rows_records_have_one_spelling.ensures;
  links = c.links_records_have_one_spelling.ensures;
  files = c.layouts_are_sound.ensures.files_record;
  archive = c.archive_records_have_one_spelling.ensures;
  backups = c.backup_records_have_one_spelling.ensures;
}

pub returns-clause-folded : goal.returns-clause-folded
returns-clause-folded c lists f later xs = more-folded (sound c) xs lists f later

pub returns-clause-stand : goal.returns-clause-stand
returns-clause-stand c = lists-stand
