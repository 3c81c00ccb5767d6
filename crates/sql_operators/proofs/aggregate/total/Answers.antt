use Rattle.std.proofs.Common.{rules}
use Rattle.meaning_sql.specs.Operators.{is_null}
use Rattle.sql_operators.proofs.aggregate.total.Goals as goal

pub returns-in-Int-y : goal.returns-in-Int-y
unfolding is_null
returns-in-Int-y c = search rules
