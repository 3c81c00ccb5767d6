use Rattle.dl_codec.proofs.RowsSound.{rows_record_sound}
use Rattle.dl_codec.proofs.laws.rows_records_have_one_spelling.Goals as goal

pub returns : goal.returns
returns c = rows_record_sound
