use Rattle.run_lines.proofs.One.{some_reading, one_reading}
use Rattle.run_lines.proofs.laws.one_reading.Goals as goal

pub returns-clause-some : goal.returns-clause-some
returns-clause-some c bytes = some_reading bytes c.one_answer.ensures.some

pub returns-clause-only : goal.returns-clause-only
returns-clause-only c bytes = one_reading bytes c.one_answer.ensures.only
