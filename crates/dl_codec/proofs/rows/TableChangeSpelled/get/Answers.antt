use Rattle.std.proofs.Common.{arith}
use Rattle.std.proofs.lemmas.Grind.{common_steps}
use Rattle.dl_codec.specs.Rows.{table_change, done}
use Rattle.dl_codec.proofs.rows.TableChangeSpelled.get.Goals as goal

pub returns-in-0 : goal.returns-in-0
unfolding table_change done
returns-in-0 c = grind (arith, common_steps)

pub returns-in-1 : goal.returns-in-1
unfolding table_change done
returns-in-1 c = grind (arith, common_steps)

pub returns-in-2 : goal.returns-in-2
unfolding table_change done
returns-in-2 c = grind (arith, common_steps)

pub returns-in_default : goal.returns-in_default
unfolding table_change done
returns-in_default c = grind (arith, common_steps)

pub returns-in_err-table : goal.returns-in_err-table
unfolding table_change done
returns-in_err-table c = grind (arith, common_steps)
