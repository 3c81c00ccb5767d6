use Rattle.sql_run.specs.Outcomes.{counted}
use Rattle.sql_run.proofs.Touched.{beside_of, exact_of, never_counted, counted_told, stays}
use Rattle.sql_run.proofs.evaluating.carried_out.Goals as goal

pub returns-clause-exact : goal.returns-clause-exact
returns-clause-exact c =
    exact_of c.args.tables.now c.change.new.tables c.args.next_link.now c.change.new.next_link c.change.result c.args.stmt.now c.args.context.now counted c.counted.result
    c.change.ensures.ok c.change.ensures.refused c.change.ensures.unchanged c.counted.ensures.ok c.counted.ensures.other

pub returns-clause-memory : goal.returns-clause-memory
returns-clause-memory c = never_counted c.change.result c.counted.result c.counted.ensures.ok c.counted.ensures.other

pub returns-clause-beside : goal.returns-clause-beside
returns-clause-beside c =
    beside_of c.args.tables.now c.change.new.tables c.args.next_link.now c.change.new.next_link c.change.result c.counted.result c.change.ensures.beside c.change.ensures.unchanged c.counted.ensures.touched

pub returns-clause-told : goal.returns-clause-told
returns-clause-told c = counted_told c.change.result c.counted.result c.change.ensures.told c.counted.ensures.ok c.counted.ensures.touched

pub returns-clause-unchanged : goal.returns-clause-unchanged
returns-clause-unchanged c = stays c.args.tables.now c.change.new.tables c.args.next_link.now c.change.new.next_link c.change.result c.counted.result c.change.ensures.unchanged c.counted.ensures.memory
