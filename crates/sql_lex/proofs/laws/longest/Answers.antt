use Rattle.sql_lex.proofs.Lengths.{front_longest}
use Rattle.sql_lex.proofs.laws.longest.Goals as goal

pub returns : goal.returns
returns c = front_longest
