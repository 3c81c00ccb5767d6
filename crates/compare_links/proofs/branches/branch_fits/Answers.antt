use Rattle.std.proofs.Common.{sym}
use Rattle.std.proofs.lemmas.Bool.Decides.{Decides-at}
use Rattle.std.specs.FinMap as maps
use Rattle.fm_branch.specs.Shown.{shown}
use Rattle.compare_links.proofs.Tests.{branch-decides, there-decides}
use Rattle.compare_links.specs.Fitting.{BranchFits, branch_fits}
use Rattle.compare_links.proofs.branches.branch_fits.Goals as goal

pub returns-in_Some-branch : goal.returns-in_Some-branch
returns-in_Some-branch c =
    let b = shown c.in_Some-branch.branch in
    there-decides (BranchFits c.args.store.now.rows c.args.tx) b (maps.get c.args.branches.now.links.table c.args.tx) c.does_fit.result (sym c.in_Some-branch.ensures)
    (Decides-at c.does_fit.result (branch_fits c.args.store.now.rows c.args.tx b) c.does_fit.ensures (branch-decides c.args.store.now.rows c.args.tx b))
