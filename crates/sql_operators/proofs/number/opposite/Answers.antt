use Rattle.std.proofs.Common.{rules}
use Rattle.sql_operators.proofs.Numbers.{fitting}
use Rattle.sql_operators.proofs.number.opposite.Goals as goal

pub returns : goal.returns
returns c = search (rules, fitting)
