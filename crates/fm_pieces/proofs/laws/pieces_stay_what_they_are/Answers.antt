use Rattle.fm_pieces.proofs.Behind.{pieces-stay}
use Rattle.fm_pieces.proofs.laws.pieces_stay_what_they_are.Goals as goal

pub returns : goal.returns
returns c = pieces-stay
