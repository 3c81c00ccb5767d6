use Rattle.std.proofs.Common.{arith}
use Rattle.sql_change.proofs.Numbering.{numbered}
use Rattle.sql_change.proofs.inserting.new_rows.Goals as goal

pub returns-in_err-made-clause-put : goal.returns-in_err-made-clause-put
returns-in_err-made-clause-put c = grind (arith, numbered)

pub returns-clause-put : goal.returns-clause-put
returns-clause-put c = grind (arith, numbered)

pub returns-clause-wide : goal.returns-clause-wide
returns-clause-wide c = grind (arith, numbered)
