use Rattle.std.proofs.Common.{◌≡◌, ℕ, ◌+◌, ◌≤◌, List, length, Option}
use Rattle.dl_areas.specs.Lists.{Lists}
use Rattle.meaning_run.specs.Running.{Run}
use Rattle.sys_owners.specs.Owned.{journals_of}
use Rattle.sys_run.specs.Running.{Stands}
use Rattle.datalinks.specs.Lines.{IsAtScript}
use Rattle.datalinks.proofs.Passing.{Passed}
use Rattle.datalinks.proofs.run.run_lines.Given as goal

abbrev pub invariant-loop-rest : goal.invariant-loop-rest
invariant-loop-rest g l = record {
  numbered : l.number + length l.rest ≤ length l.script + 1;
  passed : (first : ℕ) (lists : Lists) (before : Option (List ℕ)) (r : Run) → Stands first lists before r l.initial.engine l.initial.sessions (g.B.Bench.outside l.initial.bench) → IsAtScript l.script r
      → Passed first lists before r (journals_of l.initial.engine.owners) l.rest l.number l.engine l.sessions (g.B.Bench.outside l.initial.bench) (g.B.Bench.outside l.bench);
  clean : (g.B.Bench.outside l.bench).faults ≡ (g.B.Bench.outside l.initial.bench).faults;
}

abbrev pub decreases-loop-rest : goal.decreases-loop-rest
decreases-loop-rest g l = length l.rest
