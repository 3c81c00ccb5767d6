use Rattle.std.proofs.Common.{List, ap, sym, ◌∙◌}
use Rattle.dl_base.specs.declared.column.Column.{Column}
use Rattle.bk_losing.specs.Losing.{lost_by, row_set}
use Rattle.bk_losing.proofs.Without.{rows-begun, table-turn}
use Rattle.meaning_tables.specs.Tables.{Rows}
use Rattle.bk_losing.proofs.losing.Losing.set_rows.Goals as goal

pub loop-i-init : goal.loop-i-init
loop-i-init c =
    let t = c.args.table.now in
    record {
      still = c.requires ∙ ap (λ (u : Rows). record t { rows = u.rows }) (sym c.requires);
      so = rows-begun (lost_by c.args.self.now) t.columns t.rows c.args.made.now.rows (ap (λ (u : Rows). u.rows) c.requires);
    }

pub loop-i-preserved : goal.loop-i-preserved
loop-i-preserved c =
    let lost = lost_by c.args.self.now in
    let made = c.loop-i.made in
    let two =
    table-turn lost c.args.table.now made c.set_row.new.made c.loop-i.i c.in-Some.number c.in-Some.row.now c.len-i-end.ensures.numbered c.in-Some.ensures.left
    (c.in_ok-set_row-in-Some.ensures ∙ ap (λ (cs : List Column). record made { rows = row_set lost cs made.rows c.in-Some.number c.in-Some.row.now }) c.columns.ensures)
    c.loop-i.invariant.still c.loop-i.invariant.so in
    record { still = two.0; so = two.1 }
