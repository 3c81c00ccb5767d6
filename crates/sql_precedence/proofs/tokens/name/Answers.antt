use Rattle.std.proofs.Common.{arith}
use Rattle.std.proofs.lemmas.Grind.{elements}
use Rattle.sql_precedence.proofs.tokens.name.Goals as goal

pub returns-in_ok-copy-in-Some-Word : goal.returns-in_ok-copy-in-Some-Word
returns-in_ok-copy-in-Some-Word c = grind (arith, elements)

pub returns-in_default : goal.returns-in_default
returns-in_default c = grind (arith, elements)
