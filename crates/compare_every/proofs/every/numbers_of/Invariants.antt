use Rattle.std.proofs.Common.{◌≡◌, ◌++◌}
use Rattle.std.specs.Map.{keys_of}
use Rattle.compare_every.proofs.every.numbers_of.Given as goal

-- the numbers so far, and those of the rows that are left
abbrev pub invariant-loop-number : goal.invariant-loop-number
invariant-loop-number l = l.numbers ++ keys_of l.number-iterator ≡ keys_of l.rows.entries
