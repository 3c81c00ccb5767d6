use Rattle.std.proofs.Common.{rules}
use Rattle.sql_operators.proofs.datalinks.is_url.Goals as goal

pub returns-in-Null : goal.returns-in-Null
returns-in-Null c = search rules
