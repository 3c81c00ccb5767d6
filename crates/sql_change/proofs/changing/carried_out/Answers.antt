use Rattle.std.proofs.Common.{arith}
use Rattle.std.proofs.lemmas.Grind.{common_steps}
use Rattle.sql_change.proofs.changing.carried_out.Goals as goal

pub returns-in-Delete-clause-ok : goal.returns-in-Delete-clause-ok
returns-in-Delete-clause-ok c = grind (arith, common_steps)

pub returns-in_ok-drop_table-in-DropTable-clause-beside : goal.returns-in_ok-drop_table-in-DropTable-clause-beside
returns-in_ok-drop_table-in-DropTable-clause-beside c = grind (arith, common_steps)

pub returns-in_ok-drop_table-in-DropTable-clause-told : goal.returns-in_ok-drop_table-in-DropTable-clause-told
returns-in_ok-drop_table-in-DropTable-clause-told c = grind (arith, common_steps)

pub returns-in_ok-create-in-CreateTable-clause-beside : goal.returns-in_ok-create-in-CreateTable-clause-beside
returns-in_ok-create-in-CreateTable-clause-beside c = grind (arith, common_steps)

pub returns-in-Begin-clause-beside : goal.returns-in-Begin-clause-beside
returns-in-Begin-clause-beside c = grind (arith, common_steps)

pub returns-in-Update-clause-none : goal.returns-in-Update-clause-none
returns-in-Update-clause-none c = grind (arith, common_steps)

pub returns-in-Insert-clause-ok : goal.returns-in-Insert-clause-ok
returns-in-Insert-clause-ok c = grind (arith, common_steps)

pub returns-in-Delete-clause-none : goal.returns-in-Delete-clause-none
returns-in-Delete-clause-none c = grind (arith, common_steps)

pub returns-in-Insert-clause-none : goal.returns-in-Insert-clause-none
returns-in-Insert-clause-none c = grind (arith, common_steps)

pub returns-in-Delete-clause-refused : goal.returns-in-Delete-clause-refused
returns-in-Delete-clause-refused c = grind (arith, common_steps)

pub returns-in-Insert-clause-refused : goal.returns-in-Insert-clause-refused
returns-in-Insert-clause-refused c = grind (arith, common_steps)

pub returns-in-Update-clause-ok : goal.returns-in-Update-clause-ok
returns-in-Update-clause-ok c = grind (arith, common_steps)

pub returns-in_ok-drop_table-in-DropTable-clause-ok : goal.returns-in_ok-drop_table-in-DropTable-clause-ok
returns-in_ok-drop_table-in-DropTable-clause-ok c = grind (arith, common_steps)

pub returns-in_ok-create-in-CreateTable-clause-ok : goal.returns-in_ok-create-in-CreateTable-clause-ok
returns-in_ok-create-in-CreateTable-clause-ok c = grind (arith, common_steps)

pub returns-in_ok-create-in-CreateTable-clause-told : goal.returns-in_ok-create-in-CreateTable-clause-told
returns-in_ok-create-in-CreateTable-clause-told c = grind (arith, common_steps)

pub returns-in-Begin-clause-told : goal.returns-in-Begin-clause-told
returns-in-Begin-clause-told c = grind (arith, common_steps)

pub returns-in-Update-clause-refused : goal.returns-in-Update-clause-refused
returns-in-Update-clause-refused c = grind (arith, common_steps)
