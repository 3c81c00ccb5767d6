use Rattle.sys_promises.proofs.Later.{vote-there}
use Rattle.sys_promises.proofs.laws.a_vote_is_in_every_image_behind_it.Goals as goal

pub returns : goal.returns
returns c js lists r before p m k session = vote-there m k session
