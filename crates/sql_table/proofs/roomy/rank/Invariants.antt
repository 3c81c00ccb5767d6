use Rattle.std.proofs.Common.{◌-◌, ◌≡◌, ◌<◌, ◌≤◌, ℕ, true, false, length}
use Rattle.sql_table.specs.Roomy.{less, named}
use Rattle.sql_table.proofs.roomy.rank.Given as goal

abbrev pub invariant-loop-low : goal.invariant-loop-low
invariant-loop-low l =
    (l.low ≤ l.high) × (l.high ≤ length l.order)
    × ((i : ℕ) → i < l.low → less (named l.names l.order i) l.name ≡ true)
    × ((i : ℕ) → l.high ≤ i → i < length l.order → less (named l.names l.order i) l.name ≡ false)

abbrev pub decreases-loop-low : goal.decreases-loop-low
decreases-loop-low l = l.high - l.low
