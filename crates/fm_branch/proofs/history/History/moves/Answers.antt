use Rattle.std.proofs.Common.{ap, sym, ◌∙◌}
use Rattle.std.specs.FinMap as maps
use Rattle.fm_branch.proofs.HistoryLaws.{placed_phase}
use Rattle.fm_branch.specs.Table.{Numbered}
use Rattle.fm_branch.proofs.history.History.moves.Goals as goal

pub invariant_of-self : goal.invariant_of-self
invariant_of-self c q b e =
    placed_phase c.self.inside.table.table c.args.tx c.args.to c.self.inside.held c.self.invariant q b
    (sym (ap (λ (n : Numbered). maps.get n.table q) c.set_phase.ensures) ∙ e)
