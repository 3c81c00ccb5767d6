use Rattle.sys_seats.proofs.Sums.{none-counted, put-counted, taken-counted}
use Rattle.sys_seats.proofs.laws.seats_count_together.Goals as goal

pub returns-clause-none : goal.returns-clause-none
returns-clause-none c = none-counted

pub returns-clause-taken : goal.returns-clause-taken
returns-clause-taken c = taken-counted

pub returns-clause-put : goal.returns-clause-put
returns-clause-put c = put-counted
