use Rattle.std.proofs.Common.{◌≡◌, ◌∙◌}
use Rattle.fm_branch.specs.Held.{held_in}
use Rattle.fm_branch.specs.Linked.{Recorded, with_prepared}
use Rattle.fm_branch.specs.Table.{Numbered}
use Rattle.fm_branch.proofs.history.History.take_back.Goals as goal

pub returns : goal.returns
returns c before tx b new put =
    let h = c.self.inside in
    let was : ◌≡◌ {A = Recorded} (record { links = record { opening = h.opening; table = h.table.table; held = held_in h.held }; prepared = h.table.prepared }) (with_prepared before tx b) =
    c.self.view_is ∙ put in
    let numbered : Numbered = record { table = before.links.table; prepared = before.prepared } in
    let back : c.take_back.new.self ≡ numbered = c.take_back.ensures.back numbered tx b new (λ i. record { table = (was i).links.table; prepared = (was i).prepared }) in
    λ i. record { links = record { opening = (was i).links.opening; table = (back i).table; held = (was i).links.held }; prepared = (back i).prepared }
