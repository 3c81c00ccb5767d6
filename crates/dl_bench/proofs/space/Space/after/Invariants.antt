use Rattle.std.proofs.Common.{◌≡◌, take}
use Rattle.dl_bench.specs.Contents.{content_of, content_at}
use Rattle.dl_bench.specs.Replay.{state_after}
use Rattle.dl_bench.proofs.space.Space.after.Given as goal

abbrev pub invariant-loop-event : goal.invariant-loop-event
invariant-loop-event l = content_of l.space ≡ content_at (state_after (take l.event-index l.events)) l.area
