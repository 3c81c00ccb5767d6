use Rattle.bk_losing.specs.Losing.{lost_by}
use Rattle.bk_losing.proofs.Named.{named-without}
use Rattle.bk_losing.proofs.Without.{tables-begun, tables-turn, with-table}
use Rattle.bk_losing.proofs.losing.Losing.set_tables.Goals as goal

pub loop-i-init : goal.loop-i-init
loop-i-init c = tables-begun (lost_by c.args.self.now) c.args.target.now c.args.made.now.tables c.requires

pub loop-i-preserved : goal.loop-i-preserved
loop-i-preserved c =
    tables-turn (lost_by c.args.self.now) c.args.target.now c.loop-i.i c.in-Some.name.now c.in-Some.table.now c.loop-i.made.tables c.put.new.self.tables
    (named-without (lost_by c.args.self.now) c.args.target.now c.len-i-end.ensures.distinct) c.in-Some.ensures.left
    (with-table c.loop-i.made.tables c.in-Some.name.now c.in_ok-table_without-in-Some.field-0 _ c.in_ok-table_without-in-Some.ensures c.put.ensures.tables) c.loop-i.invariant
