use Rattle.std.proofs.Common.{rules}
use Rattle.meaning_sql.specs.Datalinks.{accessed}
use Rattle.sql_operators.proofs.datalinks.accessed.Goals as goal

pub returns-in_default : goal.returns-in_default
unfolding accessed
returns-in_default c = search rules
