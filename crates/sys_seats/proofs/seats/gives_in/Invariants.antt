use Rattle.std.proofs.Common.{◌≡◌, ◌+◌}
use Rattle.sys_seats.specs.Seats.{sum_of, gives_of}
use Rattle.sys_seats.proofs.seats.gives_in.Given as goal

-- what is counted so far, and what the seats that are left count
abbrev pub invariant-loop-seat : goal.invariant-loop-seat
invariant-loop-seat l = l.sum + sum_of gives_of l.seat-iterator ≡ sum_of gives_of l.entries.entries
