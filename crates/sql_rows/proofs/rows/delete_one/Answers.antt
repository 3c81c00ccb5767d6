use Rattle.std.proofs.Common.{◌≡◌, true, Option, Some, is_some, Ok, Err, ap, rules}
use Rattle.dl_base.specs.declared.value.Row.{Row}
use Rattle.meaning_sql.specs.Conditions.{holds_all}
use Rattle.meaning_sql.specs.Faults.{option_list}
use Rattle.meaning_sql.proofs.Turns.{refused_as}
use Rattle.meaning_tables.specs.Tables.{row_of}
use Rattle.sql_rows.specs.Remaining.{remainder_of}
use Rattle.sql_rows.specs.declared.rows.Deleted.{Deleted}
use Rattle.sql_rows.proofs.Alone.{alone_gone, alone_refused}
use Rattle.sql_rows.proofs.Beside.{only_fewer, only_gone}
use Rattle.sql_rows.proofs.rows.delete_one.Goals as goal

pub returns-in_err-filter_holds-in-Some-clause-rows : goal.returns-in_err-filter_holds-in-Some-clause-rows
returns-in_err-filter_holds-in-Some-clause-rows c =
    let t = c.args.table.now in
    let row = c.in-Some.row.now in
    let e = c.in_err-filter_holds-in-Some.field-0.0 in
    let there : row_of t.rows c.args.number ≡ Some row = search rules in
    let is : c.from_residual.result ≡ Err e = search rules in
    refused_as _ c.from_residual.result e _ is (λ other. alone_refused c.args.columns.now c.args.context.now c.args.filter.now t c.args.number row c.numbered.ensures there c.requires e (c.in_err-filter_holds-in-Some.ensures.all other))

pub returns-in_ok-without_one-in-Some-clause-rows : goal.returns-in_ok-without_one-in-Some-clause-rows
returns-in_ok-without_one-in-Some-clause-rows c =
    let t = c.args.table.now in
    let row = c.in-Some.row.now in
    let d = c.in_ok-without_one-in-Some.field-0 in
    let there : row_of t.rows c.args.number ≡ Some row = search rules in
    let holds : holds_all c.args.columns.now c.args.context.now (option_list c.args.filter.now) row ≡ Ok true = search rules in
    alone_gone c.args.columns.now c.args.context.now c.args.filter.now t c.args.number row c.numbered.ensures there c.requires (remainder_of t d.left) holds (ap (λ (x : Deleted). remainder_of t x.left) c.in_ok-without_one-in-Some.ensures)

pub returns-in_ok-without_one-in-Some-clause-beside : goal.returns-in_ok-without_one-in-Some-clause-beside
returns-in_ok-without_one-in-Some-clause-beside c =
    let t = c.args.table.now in
    let d = c.in_ok-without_one-in-Some.field-0 in
    let is = c.in_ok-without_one-in-Some.ensures in
    only_gone d.removed t.rows (remainder_of t d.left).rows c.args.number (ap (λ (x : Deleted). x.removed) is) (ap (λ (x : Deleted). (remainder_of t x.left).rows) is)

pub returns-in_ok-without_one-in-Some-clause-told : goal.returns-in_ok-without_one-in-Some-clause-told
returns-in_ok-without_one-in-Some-clause-told c =
    let t = c.args.table.now in
    let d = c.in_ok-without_one-in-Some.field-0 in
    let is = c.in_ok-without_one-in-Some.ensures in
    let there : row_of t.rows c.args.number ≡ Some c.in-Some.row.now = search rules in
    only_fewer d.removed t.rows (remainder_of t d.left).rows c.args.number (ap (λ (x : Deleted). x.removed) is) (ap (λ (x : Deleted). (remainder_of t x.left).rows) is) (ap (λ (r : Option Row). is_some r) there)
