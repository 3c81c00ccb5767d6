use Rattle.std.proofs.Common.{ap, sym, arith}
use Rattle.sql_table.proofs.Numbers.{none-removed, is_there}
use Rattle.sql_table.proofs.table.Table.unset.Goals as goal

pub returns-in-None-clause-ok : goal.returns-in-None-clause-ok
returns-in-None-clause-ok c = ap (λ rows. record c.args.self.now { rows = rows }) (sym (none-removed c.args.number c.args.self.now.rows c.in-None.ensures))

pub returns-in_ok-take_out-in-Some-clause-found : goal.returns-in_ok-take_out-in-Some-clause-found
returns-in_ok-take_out-in-Some-clause-found c = grind (arith, is_there)
