use Rattle.sql_lex.proofs.Written.{written_spells, capitals_spell, all_spelled}
use Rattle.sql_lex.proofs.laws.written_again.Goals as goal

pub returns-clause-written : goal.returns-clause-written
returns-clause-written c = written_spells

pub returns-clause-capitals : goal.returns-clause-capitals
returns-clause-capitals c = capitals_spell

pub returns-clause-spelled : goal.returns-clause-spelled
returns-clause-spelled c = all_spelled
