use Rattle.sql_print.proofs.Lists.{more_step}
use Rattle.sql_print.proofs.printing.put_more.Goals as goal

pub parts-preserved : goal.parts-preserved
parts-preserved g c = more_step g.T.Printed.text c.args.list.now c.parts.part-index c.part-item.result c.args.out.now c.parts.out c.put_symbol.new.out c.put.new.out c.parts-test.true c.part-item.is c.parts.invariant c.in_ok-put_symbol.ensures c.in_ok-put.ensures
