use Rattle.sys_promises.proofs.Later.{told-behind, turn-recorded}
use Rattle.sys_promises.proofs.Placed.{each-there}
use Rattle.sys_promises.proofs.laws.what_a_turn_wrote_is_in_every_image_behind_it.Goals as goal

pub returns-clause-records : goal.returns-clause-records
returns-clause-records c js lists r before p m k x = turn-recorded m k x

pub returns-clause-each : goal.returns-clause-each
returns-clause-each c lists front back x p = each-there lists front back x p

pub returns-clause-told : goal.returns-clause-told
returns-clause-told c js lists r before p m k x = told-behind m k x
