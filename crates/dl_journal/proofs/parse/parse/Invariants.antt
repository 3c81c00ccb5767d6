use Rattle.std.proofs.Common.{◌≡◌, ◌+◌, ◌++◌, ◌<◌, length}
use Rattle.dl_journal.specs.Records.{blocks, size}
use Rattle.dl_journal.proofs.parse.parse.Given as goal

abbrev pub invariant-loop-rest : goal.invariant-loop-rest
invariant-loop-rest l = record {
  split : l.bytes ≡ blocks l.bodies ++ l.rest;
  more : 0 < length l.rest;
  count : size l.bodies ≡ l.place;
  all : l.place + length l.rest ≡ length l.bytes;
}

abbrev pub decreases-loop-rest : goal.decreases-loop-rest
decreases-loop-rest l = length l.rest
