use Rattle.dl_codec.proofs.LinksSound.{links_record_sound}
use Rattle.dl_codec.proofs.laws.links_records_have_one_spelling.Goals as goal

pub returns : goal.returns
returns c = links_record_sound
