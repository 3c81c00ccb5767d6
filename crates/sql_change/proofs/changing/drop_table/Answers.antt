use Rattle.std.proofs.Common.{◌≡◌, [], sym, subst, rules, arith}
use Rattle.meaning_tables.specs.Tables.{Tables, without_table}
use Rattle.sql_rows.specs.Beside.{AgreeBeside}
use Rattle.sql_change.proofs.Touched.{dropped_beside}
use Rattle.std.proofs.lemmas.Grind.{common_steps}
use Rattle.meaning_statements.specs.Changing.{drop_table}
use Rattle.sql_change.proofs.changing.drop_table.Goals as goal

pub returns-clause-beside : goal.returns-clause-beside
returns-clause-beside c =
    let tables = c.args.tables.now in
    let dropped : c.discard.new.self ≡ without_table tables c.args.name.now = search rules in
    subst (λ (after : Tables). AgreeBeside [] tables after) (sym dropped) (dropped_beside tables c.args.name.now c.distinct.ensures)

pub returns-clause-ok : goal.returns-clause-ok
unfolding drop_table
returns-clause-ok c = grind (arith, common_steps)

pub returns-then-is_none-clause-refused : goal.returns-then-is_none-clause-refused
unfolding drop_table
returns-then-is_none-clause-refused c = grind (arith, common_steps)
