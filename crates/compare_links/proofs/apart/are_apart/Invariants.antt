use Rattle.std.specs.BTreeMap.{get}
use Rattle.std.specs.Cmp.Lexicographic.{slice_cmp}
use Rattle.std.specs.Ordering.{nat_cmp}
use Rattle.compare_links.proofs.Owning.{Owns}
use Rattle.compare_links.proofs.apart.are_apart.Given as goal

-- the paths have the branches so far as owners
abbrev pub invariant-loop-tx : goal.invariant-loop-tx
invariant-loop-tx l = Owns l.branches.links (get (slice_cmp nat_cmp) l.owners) l.txs l.tx-index
