use Rattle.std.proofs.Common.{◌≡◌, [], ap, ◌∙◌, map, rules}
use Rattle.meaning_tables.specs.Tables.{Rows}
use Rattle.sql_keys.specs.declared.finding.KeyRows.TheVariants as key_rows
use Rattle.sql_rows.proofs.Alone.{left_nothing, nothing_updated}
use Rattle.sql_rows.proofs.rows.update_rows.Goals as goal

pub returns-in_ok-copy-in-Nothing-clause-put : goal.returns-in_ok-copy-in-Nothing-clause-put
returns-in_ok-copy-in-Nothing-clause-put c =
    let t = c.args.table.now in
    let copied : c.in_ok-copy-in-Nothing.field-0 ≡ t = search rules in
    nothing_updated c.args.all.now c.args.context.now c.args.filter.now t (left_nothing c.args.all.now c.args.filter.now t c.in_ok-rows_asked.field-0 c.in-Nothing.is c.in_ok-rows_asked.ensures.passed) c.args.places.now (map (λ s. s.1) c.args.sets.now) c.args.first
    c.unmet.result (c.unmet.ensures ∙ ap (λ (x : Rows). record { table = x; next = c.args.first; met = 0; touched = key_rows.Nothing; numbers = [] }) copied)
