use Rattle.meaning_serial.proofs.Alike.{replays-alike}
use Rattle.meaning_serial.proofs.laws.transactions_see_only_what_they_name.Goals as goal

pub returns : goal.returns
returns c = replays-alike
