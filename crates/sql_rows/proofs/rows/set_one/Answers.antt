use Rattle.std.proofs.Common.{ap}
use Rattle.dl_base.specs.declared.value.Row.{Row}
use Rattle.meaning_tables.specs.Tables.{Rows}
use Rattle.sql_rows.proofs.Beside.{only_set}
use Rattle.sql_rows.proofs.rows.set_one.Goals as goal

pub returns-in-Ok-clause-beside : goal.returns-in-Ok-clause-beside
returns-in-Ok-clause-beside c =
    let t = c.args.table.now in
    let after = c.in_ok-made.made in
    let new : Row = record { values = c.args.put.values } in
    only_set c.in-Ok.numbers t.rows after.rows c.args.number new c.in-Ok.ensures (ap (λ (x : Rows). x.rows) c.in_ok-made.ensures)
