use Rattle.meaning_serial.proofs.Scripting.{turns}
use Rattle.meaning_serial.proofs.laws.turns_take_steps.Goals as goal

pub returns : goal.returns
returns c = turns
