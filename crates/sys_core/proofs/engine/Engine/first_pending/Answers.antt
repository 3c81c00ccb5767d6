use Rattle.sys_core.proofs.BackingUp.{first-is}
use Rattle.meaning_system.specs.Machine.{pending}
use Rattle.std.proofs.Common.{Some, None}
use Rattle.sys_core.proofs.engine.Engine.first_pending.Goals as goal

pub returns-in-Some : goal.returns-in-Some
returns-in-Some c first s is = first-is (pending s) c.in_ok-waiting.waiting (Some c.in-Some.link.now) (c.in_ok-waiting.ensures first s is) c.in-Some.ensures

pub returns : goal.returns
returns c first s is = first-is (pending s) c.in_ok-waiting.waiting None (c.in_ok-waiting.ensures first s is) c.in-None.ensures
