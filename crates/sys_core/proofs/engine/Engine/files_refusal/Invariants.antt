use Rattle.std.proofs.Common.{◌≡◌, drop}
use Rattle.meaning_system.specs.Claims.{files_refusal}
use Rattle.meaning_system.specs.State.{State}
use Rattle.sys_core.proofs.engine.Engine.files_refusal.Given as goal

-- each link so far has a file
abbrev pub invariant-loop-take : goal.invariant-loop-take
invariant-loop-take l = (s : State) → s.files ≡ l.self.owners.manager.files.files → files_refusal s (drop l.take-index l.takes) ≡ files_refusal s l.takes
