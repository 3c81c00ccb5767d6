use Rattle.std.proofs.Common.{rules}
use Rattle.sql_operators.proofs.datalinks.with_link_token.Goals as goal

pub returns-in_ok-with_token-in-Some : goal.returns-in_ok-with_token-in-Some
returns-in_ok-with_token-in-Some c = search rules
