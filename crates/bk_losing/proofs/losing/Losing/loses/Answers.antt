use Rattle.std.proofs.Common.{ℕ, List, Bor}
use Rattle.meaning_tables.specs.Links.{cell_links}
use Rattle.bk_losing.specs.Losing.{lost_by}
use Rattle.bk_losing.proofs.LostLaws.{path-some}
use Rattle.bk_losing.proofs.losing.Losing.loses.Goals as goal

pub returns : goal.returns
returns c = path-some (λ (p : Bor (List ℕ)). p.now) (lost_by c.args.self.now) (cell_links c.args.kind c.args.value.now) c.lost_path.result c.is_some.result c.is_some.ensures c.lost_path.ensures
