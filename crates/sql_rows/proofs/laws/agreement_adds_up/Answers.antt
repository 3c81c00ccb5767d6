use Rattle.sql_rows.proofs.Beside.{beside_both}
use Rattle.sql_rows.proofs.laws.agreement_adds_up.Goals as goal

pub returns : goal.returns
returns c = beside_both
