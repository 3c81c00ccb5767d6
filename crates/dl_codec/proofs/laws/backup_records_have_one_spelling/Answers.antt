use Rattle.dl_codec.proofs.BackupsSound.{backup_record_sound}
use Rattle.dl_codec.proofs.laws.backup_records_have_one_spelling.Goals as goal

pub returns : goal.returns
returns c = backup_record_sound
