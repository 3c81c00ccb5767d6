use Rattle.std.proofs.Common.{ap, sym, ◌∙◌}
use Rattle.std.specs.FinMap as maps
use Rattle.fm_branch.proofs.HistoryLaws.{placed_more, placed_still}
use Rattle.fm_branch.specs.Table.{Numbered}
use Rattle.fm_branch.proofs.history.History.enter.Goals as goal

pub invariant_of-self : goal.invariant_of-self
invariant_of-self c = placed_still c.self.inside.table.table c.self.inside.held c.make_places.new.held c.make_places.ensures.places c.self.invariant

pub invariant_of-self-in_err-put : goal.invariant_of-self-in_err-put
invariant_of-self-in_err-put c q b e =
    placed_still c.self.inside.table.table c.self.inside.held c.make_places.new.held c.make_places.ensures.places c.self.invariant q b
    (sym (ap (λ (n : Numbered). maps.get n.table q) c.in_err-put.ensures.err) ∙ e)

pub invariant_of-self-2 : goal.invariant_of-self-2
invariant_of-self-2 c q b e =
    placed_more c.self.inside.table.table c.args.tx c.args.entry c.make_places.new.held
    (placed_still c.self.inside.table.table c.self.inside.held c.make_places.new.held c.make_places.ensures.places c.self.invariant)
    c.in_ok-make_places.ensures.made q b (sym (ap (λ (n : Numbered). maps.get n.table q) c.in_ok-put.ensures.ok) ∙ e)
