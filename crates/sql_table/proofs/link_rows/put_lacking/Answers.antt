use Rattle.std.proofs.Common.{arith}
use Rattle.sql_table.proofs.Differing.{all_lacking}
use Rattle.sql_table.proofs.link_rows.put_lacking.Goals as goal

pub returns : goal.returns
returns c = grind (arith, all_lacking)
