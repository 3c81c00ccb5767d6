use Rattle.std.proofs.Common.{◌≡◌, Option, ◌∙◌}
use Rattle.std.proofs.lemmas.Result.{IfOk-weaker}
use Rattle.std.specs.List.{find}
use Rattle.dl_base.specs.declared.value.LinkRow.{LinkRow}
use Rattle.meaning_tables.specs.Links.{table_links}
use Rattle.meaning_tables.specs.Tables.{row_of}
use Rattle.sys_core.proofs.Finding.{table-none, table-some}
use Rattle.sys_core.specs.Numbered.{numbered_in, of_number}
use Rattle.sys_core.proofs.numbered.link_in_table.Goals as goal

pub returns-in-Some : goal.returns-in-Some
returns-in-Some c =
    let t = c.args.table.now in
    let n = c.args.link in
    IfOk-weaker c.link_at.result (λ (row : Option LinkRow). row ≡ numbered_in n t.columns (row_of t.rows c.in-Some.number)) (λ (row : Option LinkRow). row ≡ find (of_number n) (table_links t))
    (λ row is. is ∙ table-some n t c.first_link.result c.in-Some.number c.len-rows.ensures.numbered c.first_link.ensures c.in-Some.is) c.link_at.ensures

pub returns-in-None : goal.returns-in-None
returns-in-None c = table-none c.args.link c.args.table.now c.first_link.result c.len-rows.ensures.numbered c.first_link.ensures c.in-None.is
