use Rattle.std.proofs.Common.{◌≡◌, ◌==◌, Some, rules}
use Rattle.std.specs.Cmp.Lexicographic.{pointwise}
use Rattle.meaning_tables.specs.Tables.{table_of}
use Rattle.sql_table.proofs.Names.{set_same_err}
use Rattle.sql_table.proofs.tables.Tables.unset.Goals as goal

pub returns-in_err-unset-in-Some-clause-err : goal.returns-in_err-unset-in-Some-clause-err
returns-in_err-unset-in-Some-clause-err c =
    let there : table_of c.args.self.now c.args.name.now ≡ Some c.unset.new.self = search rules in
    set_same_err c.from_residual.result (pointwise ◌==◌ c.args.name.now) c.args.self.now c.unset.new.self there
