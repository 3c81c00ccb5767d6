use Rattle.std.proofs.Common.{◌==◌, ap, sym, arith}
use Rattle.sql_table.proofs.Names.{set_none}
use Rattle.sql_table.proofs.Numbers.{is_there}
use Rattle.sql_table.proofs.table.Table.set.Goals as goal

pub returns-in-None-clause-ok : goal.returns-in-None-clause-ok
returns-in-None-clause-ok c = ap (λ rows. record c.args.self.now { rows = rows }) (sym (set_none (λ n. c.args.number == n) c.args.self.now.rows c.args.row c.in-None.ensures))

pub returns-in_ok-exchange-in-Some-clause-found : goal.returns-in_ok-exchange-in-Some-clause-found
returns-in_ok-exchange-in-Some-clause-found c = grind (arith, is_there)
