use Rattle.meaning_serial.proofs.Drawing.{few-may}
use Rattle.meaning_serial.proofs.Writing.{serial, snapshot, unwritten, writes-one}
use Rattle.meaning_serial.proofs.laws.writers_are_serial.Goals as goal

pub returns-clause-serial : goal.returns-clause-serial
returns-clause-serial c = serial c.steps_keep_histories.ensures.kept

pub returns-clause-snapshot : goal.returns-clause-snapshot
returns-clause-snapshot c = snapshot c.steps_keep_histories.ensures.kept

pub returns-clause-unwritten : goal.returns-clause-unwritten
returns-clause-unwritten c = unwritten

pub returns-clause-few : goal.returns-clause-few
returns-clause-few c = few-may

pub returns-clause-written : goal.returns-clause-written
returns-clause-written c = writes-one
