use Rattle.std.proofs.Common.{◌∙◌}
use Rattle.fm_branch.proofs.Results.{if_ok}
use Rattle.compare_links.proofs.Holding.{held-again}
use Rattle.compare_links.proofs.held.held_rows.Goals as goal

pub returns : goal.returns
returns c = if_ok c.by_path.result c.by_path.ensures (λ _ e. e ∙ held-again c.args.branches.now.links.held c.requires c.in_ok-rows.rows c.in_ok-rows.ensures.all)
