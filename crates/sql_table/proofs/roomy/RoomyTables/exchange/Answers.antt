use Rattle.std.proofs.Common.{◌==◌, sym, rules}
use Rattle.std.specs.Cmp.Lexicographic.{pointwise}
use Rattle.sql_table.proofs.Names.{set_none}
use Rattle.sql_table.proofs.roomy.RoomyTables.exchange.Goals as goal

pub returns-in-None-clause-tables : goal.returns-in-None-clause-tables
returns-in-None-clause-tables c = sym (set_none (pointwise ◌==◌ c.args.name.now) c.args.self.now.tables c.args.table (search rules))
