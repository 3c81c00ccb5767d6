use Rattle.std.proofs.Common.{subst, sym}
use Rattle.meaning_tables.specs.Tables.{Rows}
use Rattle.sql_table.specs.Entries.{AreEntriesOf}
use Rattle.sql_table.specs.Places.{IsPlace}
use Rattle.sql_table.specs.declared.index.Entries.TheVariants as entries
use Rattle.sql_table.proofs.Taking.{kept_plain}
use Rattle.sql_table.proofs.table.Table.take_plain.Goals as goal

pub invariant_of-self : goal.invariant_of-self
invariant_of-self c =
    let t = c.self.inside in
    let at = subst (λ (t : Rows). IsPlace t.rows c.args.number c.args.place) (sym c.self.view_is) c.requires.at in
    let told = subst (λ (t : Rows). AreEntriesOf t.columns t.rows c.args.number entries.Nothing) (sym c.self.view_is) c.requires.entries in
    kept_plain c.remove.result t.columns t.next c.args.number c.args.place t.rows c.remove.new.self t.links t.keys c.self.invariant at told c.remove.ensures.ok c.remove.ensures.err
