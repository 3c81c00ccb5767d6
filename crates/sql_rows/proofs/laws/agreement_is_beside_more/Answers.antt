use Rattle.sql_rows.proofs.Beside.{beside_more}
use Rattle.sql_rows.proofs.laws.agreement_is_beside_more.Goals as goal

pub returns : goal.returns
returns c = beside_more
