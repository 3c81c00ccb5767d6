use Rattle.std.proofs.Common.{sym, ap, ◌∙◌}
use Rattle.std.specs.FinMap as maps
use Rattle.meaning_run.specs.Running.{Grids}
use Rattle.sys_run.proofs.Entries.{grid-at}
use Rattle.sys_run.proofs.grids.Grids.get.Goals as goal

pub returns : goal.returns
returns c =
    c.get.ensures.value ∙ sym (grid-at c.self.inside.entries.entries c.args.session)
    ∙ ap (λ (m : Grids). maps.get m c.args.session) c.self.view_is
