use Rattle.meaning_promises.proofs.Stopped.{database-keeps, database-opens, database-stops, database-writes, dooms, manager-keeps, manager-opens, manager-stops, manager-writes, no-sessions, voted-alone}
use Rattle.meaning_promises.proofs.stops.a_stop_leaves_the_other_side.Goals as goal

pub returns-clause-manager : goal.returns-clause-manager
returns-clause-manager c = manager-stops

pub returns-clause-manager_keeps : goal.returns-clause-manager_keeps
returns-clause-manager_keeps c = manager-keeps

pub returns-clause-manager_writes : goal.returns-clause-manager_writes
returns-clause-manager_writes c = manager-writes

pub returns-clause-manager_opens : goal.returns-clause-manager_opens
returns-clause-manager_opens c = manager-opens

pub returns-clause-database_opens : goal.returns-clause-database_opens
returns-clause-database_opens c = database-opens

pub returns-clause-doomed : goal.returns-clause-doomed
returns-clause-doomed c = dooms

pub returns-clause-database : goal.returns-clause-database
returns-clause-database c = database-stops

pub returns-clause-database_keeps : goal.returns-clause-database_keeps
returns-clause-database_keeps c = database-keeps

pub returns-clause-database_writes : goal.returns-clause-database_writes
returns-clause-database_writes c = database-writes

pub returns-clause-sessions : goal.returns-clause-sessions
returns-clause-sessions c = no-sessions

pub returns-clause-active : goal.returns-clause-active
returns-clause-active c = voted-alone
