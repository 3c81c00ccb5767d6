use Rattle.std.proofs.Common.{◌≡◌, Some, ◌∙◌}
use Rattle.std.specs.FinMap as maps
use Rattle.compare_every.proofs.Maps.{changed}
use Rattle.compare_links.proofs.held.take.Goals as goal

pub returns : goal.returns
returns c =
    let path : c.in_ok-path.path ≡ c.args.link.now.path = c.in_ok-path.ensures in
    let row : c.in_ok-row.row ≡ c.args.link.now = c.in_ok-row.ensures in
    changed c.args.held.now.entries c.insert.new.self.entries c.in_ok-path.path (Some c.in_ok-row.row) c.in_ok-insert.ensures.updates.0
    ∙ (λ i. maps.insert (maps.from_entries c.args.held.now.entries) (path i) (row i))
