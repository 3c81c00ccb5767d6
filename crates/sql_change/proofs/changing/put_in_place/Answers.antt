use Rattle.std.proofs.Common.{◌≡◌, sym, subst, rules}
use Rattle.meaning_tables.specs.Tables.{Tables, with_table}
use Rattle.sql_rows.specs.Beside.{AgreeBeside}
use Rattle.sql_change.proofs.Touched.{put_beside}
use Rattle.sql_change.proofs.changing.put_in_place.Goals as goal

pub returns-clause-beside : goal.returns-clause-beside
returns-clause-beside c = λ t there agree.
    let tables = c.args.tables.now in
    let put : c.put.new.self ≡ with_table tables c.args.name.now c.args.made.table = search rules in
    subst (λ (after : Tables). AgreeBeside c.args.made.touched tables after) (sym put) (put_beside c.args.made.touched c.args.name.now c.args.made.table t tables there agree)
