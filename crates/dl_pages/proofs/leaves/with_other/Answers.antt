use Rattle.std.proofs.Common.{◌∙◌, sym}
use Rattle.std.proofs.lemmas.Result.{IfOk-weaker}
use Rattle.dl_pages.proofs.Rows.{set_here}
use Rattle.dl_pages.proofs.leaves.with_other.Goals as goal

pub returns : goal.returns
returns g c = IfOk-weaker c.row_of.result _ _ (λ made is. is ∙ rw (c.split_at.ensures.front, c.split_at-2.ensures.back, c.split_at.ensures.back) (sym (set_here c.args.index c.args.row.now c.args.item c.requires))) c.row_of.ensures
