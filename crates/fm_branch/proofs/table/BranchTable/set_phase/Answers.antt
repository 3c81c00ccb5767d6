use Rattle.std.proofs.Common.{ap, is_some, sym, ◌∙◌}
use Rattle.std.specs.FinMap as maps
use Rattle.fm_branch.proofs.TableLaws.{named-phase, phase_of_entries}
use Rattle.fm_branch.specs.Table.{Numbered, Table, with_phase}
use Rattle.fm_branch.proofs.table.BranchTable.set_phase.Goals as goal

pub returns : goal.returns
returns c =
    ap (λ (t : Table). record { table = t; prepared = c.self.inside.prepared.items })
    (phase_of_entries c.self.inside.entries.entries c.renew.new.entries.entries c.args.tx c.args.phase c.renew.ensures.others c.renew.ensures.entry)
    ∙ ap (λ (n : Numbered). record { table = with_phase n.table c.args.tx c.args.phase (maps.get n.table c.args.tx); prepared = n.prepared }) c.self.view_is

pub invariant_of-self : goal.invariant_of-self
invariant_of-self c =
    let old : Table = maps.from_entries c.self.inside.entries.entries in
    let is = phase_of_entries c.self.inside.entries.entries c.renew.new.entries.entries c.args.tx c.args.phase c.renew.ensures.others c.renew.ensures.entry in
    (λ q. named-phase old c.args.tx c.args.phase c.self.inside.prepared.items c.self.invariant.0 q ∙ ap (λ (t : Table). is_some (maps.get t q)) (sym is), c.self.invariant.1)
