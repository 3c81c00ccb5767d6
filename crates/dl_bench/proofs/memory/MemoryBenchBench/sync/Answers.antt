use Rattle.dl_bench.specs.Traces.{Trace}
use Rattle.dl_bench.proofs.Seen.{touches_synced, durable, reads_synced}
use Rattle.dl_bench.proofs.memory.MemoryBenchBench.sync.Goals as goal

pub returns-in-Ok-clause-durable : goal.returns-in-Ok-clause-durable
returns-in-Ok-clause-durable c =
    let now : Trace = record { events = c.sync.new.self.events.items; tally = c.fails.new.self } in
    durable _ _ now c.self.view_is c.fails.ensures.count c.args.area c.in-Ok.ensures.ok

pub returns-in-Ok-clause-same : goal.returns-in-Ok-clause-same
returns-in-Ok-clause-same c =
    let now : Trace = record { events = c.sync.new.self.events.items; tally = c.fails.new.self } in
    reads_synced _ _ now c.self.view_is c.args.area c.in-Ok.ensures.ok

pub returns-in-Ok-clause-crash : goal.returns-in-Ok-clause-crash
returns-in-Ok-clause-crash c =
    let now : Trace = record { events = c.sync.new.self.events.items; tally = c.fails.new.self } in
    touches_synced _ _ now c.self.view_is c.fails.ensures.count c.args.area c.in-Ok.ensures.ok
