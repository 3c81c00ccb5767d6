use Rattle.std.proofs.Common.{◌/◌, length, ⊎_elim}
use Rattle.dl_bench.specs.Traces.{Trace}
use Rattle.dl_bench.proofs.Seen.{says_all, says_half, says_none, told_more}
use Rattle.dl_bench.proofs.memory.MemoryBenchBench.say.Goals as goal

pub returns-in-Ok-clause-told : goal.returns-in-Ok-clause-told
returns-in-Ok-clause-told c =
    let now : Trace = record { events = c.say.new.self.events.items; tally = c.fails.new.self } in
    told_more _ _ now c.self.view_is c.args.bytes.now c.in-Ok.ensures.ok

pub returns-in-Ok-clause-crash : goal.returns-in-Ok-clause-crash
returns-in-Ok-clause-crash c =
    let now : Trace = record { events = c.say.new.self.events.items; tally = c.fails.new.self } in
    says_all _ _ now c.self.view_is c.fails.ensures.count c.args.bytes.now c.in-Ok.ensures.ok

pub returns-then-fails-clause-crash : goal.returns-then-fails-clause-crash
returns-then-fails-clause-crash c =
    let now : Trace = record { events = c.say_half.new.self.events.items; tally = c.fails.new.self } in
    ⊎_elim
    (λ same. says_none _ _ now c.self.view_is c.fails.ensures.count c.args.bytes.now same)
    (λ half. says_half _ _ now c.self.view_is c.fails.ensures.count (length c.args.bytes.now / 2) c.args.bytes.now half)
    c.say_half.ensures
