use Rattle.std.proofs.Common.{◌≡◌, ◌++◌}
use Rattle.fm_branch.specs.Table.{doubtful}
use Rattle.fm_branch.proofs.table.doubtful.Given as goal

-- those so far, and those of the branches that are left
abbrev pub invariant-loop-tx : goal.invariant-loop-tx
invariant-loop-tx l = l.txs ++ doubtful l.tx-iterator ≡ doubtful l.entries.entries
