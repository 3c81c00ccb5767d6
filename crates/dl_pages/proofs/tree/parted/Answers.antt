use Rattle.std.proofs.Common.{◌++◌}
use Rattle.std.proofs.lemmas.Result.{IfOk-at_ok, IfOk-weaker}
use Rattle.dl_pages.proofs.Parts.{in_two}
use Rattle.dl_pages.proofs.tree.parted.Goals as goal

pub returns : goal.returns
returns g c =
    IfOk-weaker c.both-2.result _ _ (λ made is. in_two c.args.before.now c.args.behind.now c.split_at-2.result.0.now c.split_at-2.result.1.now _ (c.args.made.first.0 ++ c.args.made.second.0) made.first.0 made.second.0 c.split_at-2.ensures.front c.split_at-2.ensures.back (IfOk-at_ok _ is.0 c.page_of-2.ensures) (IfOk-at_ok _ is.1 c.page_of_parts-2.ensures)) c.both-2.ensures.parts
