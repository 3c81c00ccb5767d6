use Rattle.sql_lex.proofs.Scans.{some_answer, one_reading, one_place, never_both}
use Rattle.sql_lex.proofs.laws.one_answer.Goals as goal

pub returns-clause-lexemes : goal.returns-clause-lexemes
returns-clause-lexemes c = one_reading

pub returns-clause-place : goal.returns-clause-place
returns-clause-place c = one_place

pub returns-clause-never_both : goal.returns-clause-never_both
returns-clause-never_both c = never_both

pub returns-clause-some : goal.returns-clause-some
returns-clause-some c = some_answer
