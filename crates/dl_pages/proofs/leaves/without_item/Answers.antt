use Rattle.std.proofs.Common.{◌++◌, take, ◌∙◌, sym, ap}
use Rattle.std.proofs.lemmas.Result.{IfOk-weaker}
use Rattle.dl_pages.proofs.Rows.{drop_next}
use Rattle.dl_pages.proofs.leaves.without_item.Goals as goal

pub returns : goal.returns
returns g c = IfOk-weaker c.row_of.result _ _ (λ made is. is ∙ rw (c.split_at.ensures.front, c.split_at-2.ensures.back, c.split_at.ensures.back) (ap (λ l. take c.args.index c.args.row.now ++ l) (sym (drop_next c.args.index c.args.row.now)))) c.row_of.ensures
