use Rattle.meaning_areas.proofs.Equal.{rows-decide, tables-decide}
use Rattle.meaning_areas.proofs.laws.same_tables_are_equal.Goals as goal

pub returns-clause-rows : goal.returns-clause-rows
returns-clause-rows c = rows-decide

pub returns-clause-tables : goal.returns-clause-tables
returns-clause-tables c = tables-decide
