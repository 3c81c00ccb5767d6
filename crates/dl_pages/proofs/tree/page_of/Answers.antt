use Rattle.std.proofs.Common.{◌∙◌}
use Rattle.std.proofs.lemmas.Result.{IfOk-weaker}
use Rattle.dl_pages.specs.Listing.{flatten}
use Rattle.dl_pages.proofs.Parts.{page_pushed}
use Rattle.dl_pages.proofs.tree.page_of.Goals as goal

pub returns : goal.returns
returns g c =
    IfOk-weaker c.of_page.result _ _ (λ page is. is ∙ page_pushed (flatten c.args.before.now) c.args.made.first.0 c.args.made.second.0 (flatten c.args.behind.now) c.empty-page.result.0 c.push_shared.new.self.0 c.push.new.self.0 c.push-2.new.self.0 c.push_shared-2.new.self.0 c.empty-page.ensures c.in_ok-push_shared.ensures c.in_ok-push.ensures c.in_ok-push-2.ensures c.in_ok-push_shared-2.ensures) c.of_page.ensures
