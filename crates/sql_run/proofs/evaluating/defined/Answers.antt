use Rattle.sql_run.specs.Outcomes.{done}
use Rattle.sql_change.specs.Touched.{changes_rows}
use Rattle.sql_run.proofs.Touched.{beside_of, exact_of, never_done, none_of, done_told, stays}
use Rattle.sql_run.proofs.evaluating.defined.Goals as goal

pub returns-clause-exact : goal.returns-clause-exact
returns-clause-exact c =
    exact_of c.args.tables.now c.change.new.tables c.args.next_link.now c.change.new.next_link c.change.result c.args.stmt.now c.args.context.now done c.done.result
    c.change.ensures.ok c.change.ensures.refused c.change.ensures.unchanged c.done.ensures.ok c.done.ensures.other

pub returns-clause-memory : goal.returns-clause-memory
returns-clause-memory c = never_done c.change.result c.done.result c.done.ensures.ok c.done.ensures.other

pub returns-clause-beside : goal.returns-clause-beside
returns-clause-beside c =
    beside_of c.args.tables.now c.change.new.tables c.args.next_link.now c.change.new.next_link c.change.result c.done.result c.change.ensures.beside c.change.ensures.unchanged c.done.ensures.touched

pub returns-clause-told : goal.returns-clause-told
returns-clause-told c = done_told c.change.result c.done.result (none_of (changes_rows c.args.stmt.now) c.change.result c.requires.none c.change.ensures.none) c.done.ensures.ok c.done.ensures.touched

pub returns-clause-unchanged : goal.returns-clause-unchanged
returns-clause-unchanged c = stays c.args.tables.now c.change.new.tables c.args.next_link.now c.change.new.next_link c.change.result c.done.result c.change.ensures.unchanged c.done.ensures.memory
