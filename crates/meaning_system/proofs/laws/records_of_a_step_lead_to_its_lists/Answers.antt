use Rattle.meaning_system.proofs.Archiving.{leads-archive}
use Rattle.meaning_system.proofs.Claiming.{leads-statement}
use Rattle.meaning_system.proofs.Commanding.{leads-file}
use Rattle.meaning_system.proofs.Decided.{leads-decide}
use Rattle.meaning_system.proofs.Leading.{leads-begin, leads-prepare, leads-finish, leads-rollback, leads-tick, leads-manager, leads-database, leads-backup}
use Rattle.meaning_system.proofs.Refolding.{leads-restore}
use Rattle.meaning_system.proofs.Resolved.{leads-resolve}
use Rattle.meaning_system.proofs.laws.records_of_a_step_lead_to_its_lists.Goals as goal

pub returns-clause-begin : goal.returns-clause-begin
returns-clause-begin c = leads-begin

pub returns-clause-statement : goal.returns-clause-statement
returns-clause-statement c = leads-statement

pub returns-clause-prepare : goal.returns-clause-prepare
returns-clause-prepare c = leads-prepare

pub returns-clause-decide : goal.returns-clause-decide
returns-clause-decide c = leads-decide

pub returns-clause-finish : goal.returns-clause-finish
returns-clause-finish c = leads-finish

pub returns-clause-rollback : goal.returns-clause-rollback
returns-clause-rollback c = leads-rollback

pub returns-clause-backup : goal.returns-clause-backup
returns-clause-backup c = leads-backup

pub returns-clause-tick : goal.returns-clause-tick
returns-clause-tick c = leads-tick

pub returns-clause-manager : goal.returns-clause-manager
returns-clause-manager c = leads-manager

pub returns-clause-database : goal.returns-clause-database
returns-clause-database c = leads-database

pub returns-clause-resolve : goal.returns-clause-resolve
returns-clause-resolve c = leads-resolve

pub returns-clause-archive : goal.returns-clause-archive
returns-clause-archive c = leads-archive

pub returns-clause-file : goal.returns-clause-file
returns-clause-file c = leads-file

pub returns-clause-restore : goal.returns-clause-restore
returns-clause-restore c = leads-restore
