use Rattle.sys_promises.proofs.Later.{decision-there}
use Rattle.sys_promises.proofs.laws.a_decision_is_in_every_image_behind_it.Goals as goal

pub returns : goal.returns
returns c js lists r before p m k session number = decision-there m k session number
