use Rattle.std.proofs.Common.{◌≤◌, ◌+◌, ◌-◌, ℕ, List, [], length, Option}
use Rattle.dl_areas.specs.Lists.{Lists}
use Rattle.meaning_run.specs.Running.{Read, Run}
use Rattle.sys_owners.specs.Owned.{journals_of}
use Rattle.sys_run.specs.Running.{Stands}
use Rattle.sys_run.specs.Turning.{IsInLine}
use Rattle.sys_run.proofs.Reached.{Reached}
use Rattle.sys_run.proofs.line.take_turns.Given as goal

abbrev pub invariant-loop-answers : goal.invariant-loop-answers
invariant-loop-answers g l = record {
  few : length l.answers ≤ length l.waiting + 5;
  reached : (first : ℕ) (lists : Lists) (before : Option (List ℕ)) (r : Run) (rd : Read) (more : List Read) → Stands first lists before r l.initial.engine l.initial.sessions (g.B.Bench.outside l.initial.bench) → IsInLine l.number l.line [] r rd more
      → Reached l.number l.line l.waiting l.answers first lists before r rd more (journals_of l.initial.engine.owners) l.engine l.sessions (g.B.Bench.outside l.initial.bench) (g.B.Bench.outside l.bench);
}

abbrev pub decreases-loop-answers : goal.decreases-loop-answers
decreases-loop-answers g l = (length l.waiting + 6) - length l.answers
