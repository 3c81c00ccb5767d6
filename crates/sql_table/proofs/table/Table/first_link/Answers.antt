use Rattle.std.proofs.Common.{◌≡◌, subst}
use Rattle.meaning_tables.specs.First.{first_number, has_link}
use Rattle.meaning_tables.specs.Tables.{Rows}
use Rattle.sql_table.proofs.First.{first_link_is}
use Rattle.sql_table.proofs.table.Table.first_link.Goals as goal

pub returns : goal.returns
returns c =
    let kept = c.self.invariant in
    subst (λ (t : Rows). c.least.result ≡ first_number (has_link t.columns c.args.link) t.rows) c.self.view_is
    (first_link_is c.args.link c.self.inside.columns c.self.inside.next c.self.inside.rows c.self.inside.links c.least.result kept.rise kept.links (c.least.ensures kept.links.sorted))
