use Rattle.dl_codec.proofs.ArchiveSound.{archive_record_sound}
use Rattle.dl_codec.proofs.laws.archive_records_have_one_spelling.Goals as goal

pub returns : goal.returns
returns c = archive_record_sound
