use Rattle.std.proofs.Common.{ℕ, List, None, ◌∙◌, ap}
use Rattle.dl_bench.specs.declared.call.Call.{Call}
use Rattle.dl_bench.specs.Tallies.{fresh}
use Rattle.dl_bench.specs.Traces.{Trace}
use Rattle.dl_bench.proofs.Crashed.{crashed}
use Rattle.dl_bench.proofs.memory.MemoryBench.crash.Goals as goal

pub returns-in-Ok-clause-ok : goal.returns-in-Ok-clause-ok
returns-in-Ok-clause-ok c =
    let now : Trace = record { events = c.in-Ok.tape.events.items; tally = c.new.result } in
    crashed _ _ _ now c.self.view_is c.in-Ok.ensures (c.new.ensures ∙ ap (λ (l : List (Call × ℕ)). fresh l None) c.empty.ensures)
