use Rattle.std.proofs.Common.{arith}
use Rattle.std.proofs.lemmas.Grind.{elements, common_steps}
use Rattle.sql_precedence.proofs.tokens.stands.Goals as goal

pub returns-in_default : goal.returns-in_default
returns-in_default c = grind (arith, elements)

pub returns-in_default-2-clause-stands : goal.returns-in_default-2-clause-stands
returns-in_default-2-clause-stands c = grind (arith, elements)

pub returns-in-Some-Fixed-clause-stands : goal.returns-in-Some-Fixed-clause-stands
returns-in-Some-Fixed-clause-stands c = grind (arith, elements)

pub returns-in-Some-Fixed-clause-within : goal.returns-in-Some-Fixed-clause-within
returns-in-Some-Fixed-clause-within c = grind (arith, common_steps)

pub returns-in_default-2-clause-within : goal.returns-in_default-2-clause-within
returns-in_default-2-clause-within c = grind (arith, common_steps)
