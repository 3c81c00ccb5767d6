use Rattle.sql_run.proofs.Touched.{unchanged_beside}
use Rattle.sql_run.proofs.evaluating.evaluate.Goals as goal

pub returns-in-Select-clause-beside : goal.returns-in-Select-clause-beside
returns-in-Select-clause-beside c = unchanged_beside c.args.tables.now c.rows_answered.result
