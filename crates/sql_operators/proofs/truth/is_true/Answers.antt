use Rattle.std.proofs.Common.{rules}
use Rattle.meaning_sql.specs.Operators.{truth_of}
use Rattle.sql_operators.proofs.truth.is_true.Goals as goal

pub returns-in-Null : goal.returns-in-Null
unfolding truth_of
returns-in-Null c = search rules
