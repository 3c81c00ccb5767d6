use Rattle.std.proofs.Common.{rules}
use Rattle.meaning_sql.specs.Operators.{binary, of_truth, truth_of}
use Rattle.sql_operators.proofs.operator.decided.Goals as goal

pub returns-in-Some-false : goal.returns-in-Some-false
unfolding binary truth_of of_truth
returns-in-Some-false c = search rules
