use Rattle.meaning_serial.proofs.Alike.{alike}
use Rattle.meaning_serial.proofs.Freed.{free}
use Rattle.meaning_serial.proofs.laws.statements_see_only_what_they_name.Goals as goal

pub returns-clause-alike : goal.returns-clause-alike
returns-clause-alike c = alike

pub returns-clause-free : goal.returns-clause-free
returns-clause-free c = free
