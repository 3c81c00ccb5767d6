use Rattle.std.proofs.Common.{sym, ap, ◌∙◌}
use Rattle.std.specs.Cmp.{nat_cmp_total}
use Rattle.std.specs.FinMap as maps
use Rattle.fm_branch.proofs.Maps.{get-of}
use Rattle.fm_branch.specs.Table.{Numbered}
use Rattle.fm_branch.proofs.table.BranchTable.get.Goals as goal

pub returns : goal.returns
returns c =
    c.get.ensures.value ∙ sym (get-of nat_cmp_total c.self.inside.entries.entries c.args.tx)
    ∙ ap (λ (n : Numbered). maps.get n.table c.args.tx) c.self.view_is
