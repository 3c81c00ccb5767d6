use Rattle.std.proofs.Common.{arith}
use Rattle.std.proofs.lemmas.Grind.{elements, common_steps}
use Rattle.sql_precedence.proofs.tokens.says.Goals as goal

pub returns-in-Some-Word-clause-says : goal.returns-in-Some-Word-clause-says
returns-in-Some-Word-clause-says c = grind (arith, elements)

pub returns-in_default-2-clause-says : goal.returns-in_default-2-clause-says
returns-in_default-2-clause-says c = grind (arith, elements)

pub returns-in_default : goal.returns-in_default
returns-in_default c = grind (arith, elements)

pub returns-in_default-2-clause-within : goal.returns-in_default-2-clause-within
returns-in_default-2-clause-within c = grind (arith, common_steps)

pub returns-in-Some-Word-clause-within : goal.returns-in-Some-Word-clause-within
returns-in-Some-Word-clause-within c = grind (arith, common_steps)
