use Rattle.std.proofs.Common.{ap, sym, ◌∙◌}
use Rattle.std.specs.FinMap as maps
use Rattle.fm_branch.proofs.HistoryLaws.{placed_done}
use Rattle.fm_branch.specs.Table.{Numbered}
use Rattle.fm_branch.proofs.history.History.ends.Goals as goal

pub invariant_of-self : goal.invariant_of-self
invariant_of-self c q b e =
    placed_done c.self.inside.table.table c.args.tx c.self.inside.held c.settle.new.held c.settle.ensures.places c.self.invariant q b
    (sym (ap (λ (n : Numbered). maps.get n.table q) c.set_phase.ensures) ∙ e)
