use Rattle.sql_syntax.proofs.Answered.{some_answer, one_answer}
use Rattle.sql_syntax.proofs.laws.one_answer.Goals as goal

pub returns-clause-some : goal.returns-clause-some
returns-clause-some c text = some_answer text (c.one_answer.ensures.some text)

pub returns-clause-only : goal.returns-clause-only
returns-clause-only c text q r = one_answer text (c.one_answer.ensures.lexemes text, c.one_answer.ensures.place text, c.one_answer.ensures.never_both text) q r
