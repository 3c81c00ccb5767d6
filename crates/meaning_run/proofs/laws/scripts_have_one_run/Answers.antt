use Rattle.meaning_run.proofs.Reading.{one_read, some_read}
use Rattle.meaning_run.proofs.laws.scripts_have_one_run.Goals as goal

pub returns-clause-some : goal.returns-clause-some
returns-clause-some c lines = some_read lines c.one_reading.ensures.some

pub returns-clause-only : goal.returns-clause-only
returns-clause-only c lines a b = one_read lines a b c.one_reading.ensures.only
