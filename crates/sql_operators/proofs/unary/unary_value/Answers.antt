use Rattle.std.proofs.Common.{rules}
use Rattle.sql_operators.proofs.unary.unary_value.Goals as goal

pub returns-in-Not-clause-value : goal.returns-in-Not-clause-value
returns-in-Not-clause-value c = search rules
