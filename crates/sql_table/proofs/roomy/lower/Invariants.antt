use Rattle.std.proofs.Common.{◌≡◌, ◌<◌, ◌≤◌, ℕ, length, get_or}
use Rattle.sql_table.specs.Roomy.{lowered}
use Rattle.sql_table.proofs.roomy.lower.Given as goal

abbrev pub invariant-loop-i : goal.invariant-loop-i
invariant-loop-i l =
    (length l.order ≡ length l.initial.order)
    × ((k : ℕ) → k < l.i → get_or l.order k 0 ≡ lowered l.place (get_or l.initial.order k 0))
    × ((k : ℕ) → l.i ≤ k → get_or l.order k 0 ≡ get_or l.initial.order k 0)
