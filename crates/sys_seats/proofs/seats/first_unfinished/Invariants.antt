use Rattle.std.proofs.Common.{◌≡◌}
use Rattle.sys_seats.specs.Seats.{first_bound, phases_in}
use Rattle.sys_seats.proofs.seats.first_unfinished.Given as goal

-- among the seats that are left the same one is the first
abbrev pub invariant-loop-tx : goal.invariant-loop-tx
invariant-loop-tx l = first_bound (phases_in l.tx-iterator) ≡ first_bound (phases_in l.entries.entries)
