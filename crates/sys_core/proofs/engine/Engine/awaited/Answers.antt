use Rattle.std.proofs.Common.{sym, ◌∙◌, ap}
use Rattle.std.specs.List.{find}
use Rattle.meaning_tables.specs.Links.{links}
use Rattle.meaning_tables.specs.Tables.{Tables}
use Rattle.sys_core.proofs.Waiting.{none-awaited}
use Rattle.sys_core.specs.Numbered.{of_number}
use Rattle.sys_core.proofs.engine.Engine.awaited.Goals as goal

pub returns-in_default : goal.returns-in_default
returns-in_default c = none-awaited c.args.self.now c.args.link (ap (λ (ts : Tables). find (of_number c.args.link) (links ts)) (sym c.committed.ensures.tables) ∙ sym c.in_ok-row.ensures ∙ c.in_default.is)
