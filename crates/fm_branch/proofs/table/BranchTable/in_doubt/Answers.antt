use Rattle.std.proofs.Common.{ap, ◌∙◌}
use Rattle.fm_branch.proofs.Results.{if_ok}
use Rattle.fm_branch.proofs.TableLaws.{doubtful-of}
use Rattle.fm_branch.specs.Table.{Numbered, in_doubt}
use Rattle.fm_branch.proofs.table.BranchTable.in_doubt.Goals as goal

pub returns : goal.returns
returns c =
    if_ok c.doubtful.result c.doubtful.ensures.txs (λ txs is.
    is ∙ doubtful-of c.self.inside.entries.entries c.doubtful.ensures.ordered ∙ ap (λ (n : Numbered). in_doubt n.table) c.self.view_is)
