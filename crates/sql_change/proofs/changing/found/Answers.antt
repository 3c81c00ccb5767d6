use Rattle.std.proofs.Common.{arith}
use Rattle.sql_change.proofs.Fitting.{found_fits}
use Rattle.sql_change.proofs.changing.found.Goals as goal

pub returns-in-Some-clause-fits : goal.returns-in-Some-clause-fits
returns-in-Some-clause-fits c = grind (arith, found_fits)
