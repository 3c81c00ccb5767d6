use Rattle.std.proofs.Common.{◌≡◌, ◌≤◌, ℕ, List, true, false, length, get_or, sym, ap, subst, ◌∙◌, rules}
use Rattle.std.specs.FinMap as maps
use Rattle.std.specs.List.{slice_get}
use Rattle.compare_every.proofs.Deciding.{decides-no, decides-yes, refuted}
use Rattle.compare_every.proofs.Lists.{got}
use Rattle.compare_links.proofs.Walks.{below-more, below-none, each-branch}
use Rattle.compare_links.specs.Fitting.{BranchFits}
use Rattle.compare_links.specs.Walking.{IfThere}
use Rattle.compare_links.proofs.branches.all_fit.Goals as goal

pub loop-tx-init : goal.loop-tx-init
loop-tx-init c = below-none (λ tx. IfThere (BranchFits c.args.store.now.rows tx) (maps.get c.args.branches.now.links.table tx)) c.args.txs.now

pub returns-then-not-branch_fits : goal.returns-then-not-branch_fits
returns-then-not-branch_fits c =
    let off : c.branch_fits.result ≡ false = search rules in
    decides-no (λ each. refuted c.branch_fits.result c.branch_fits.ensures off (each (get_or c.as_slice-tx-items.result.now c.loop-tx.tx-index 0)))

pub loop-tx-preserved : goal.loop-tx-preserved
loop-tx-preserved c =
    let on : c.branch_fits.result ≡ true = search rules in
    let i = c.loop-tx.tx-index in
    let tx = get_or c.as_slice-tx-items.result.now i 0 in
    below-more (λ t. IfThere (BranchFits c.args.store.now.rows t) (maps.get c.args.branches.now.links.table t)) c.args.txs.now i tx
    (ap (λ (ts : List ℕ). slice_get ts i) (sym c.as_slice-tx-items.ensures) ∙ got c.as_slice-tx-items.result.now i 0 c.loop-tx-test.true)
    (c.branch_fits.ensures.0 on) c.loop-tx.invariant

pub returns : goal.returns
returns c =
    let past : length c.args.txs.now ≤ c.loop-tx.tx-index = subst (λ (ts : List ℕ). length ts ≤ c.loop-tx.tx-index) c.as_slice-tx-items.ensures c.loop-tx-test.false in
    decides-yes (each-branch (BranchFits c.args.store.now.rows) c.args.branches.now.links.table c.args.txs.now c.loop-tx.tx-index past c.requires c.loop-tx.invariant)
