use Rattle.std.proofs.Common.{rules}
use Rattle.meaning_sql.specs.Operators.{binary}
use Rattle.sql_operators.proofs.operator.binary.Goals as goal

pub returns-in-Eq : goal.returns-in-Eq
unfolding binary
returns-in-Eq c = search rules
