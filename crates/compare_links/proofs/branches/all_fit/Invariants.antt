use Rattle.std.specs.FinMap as maps
use Rattle.compare_links.specs.Fitting.{BranchFits}
use Rattle.compare_links.specs.Walking.{HoldsBelow, IfThere}
use Rattle.compare_links.proofs.branches.all_fit.Given as goal

-- the branches so far fit
abbrev pub invariant-loop-tx : goal.invariant-loop-tx
invariant-loop-tx l = HoldsBelow (λ tx. IfThere (BranchFits l.store.rows tx) (maps.get l.branches.links.table tx)) l.txs l.tx-index
