use Rattle.std.proofs.Common.{rules}
use Rattle.sql_operators.proofs.operator.compared.Goals as goal

pub returns-in-Text-y-2 : goal.returns-in-Text-y-2
returns-in-Text-y-2 c = search rules
