use Rattle.std.proofs.Common.{ℕ, List, length, ap, ◌∙◌}
use Rattle.std.specs.FinMap as maps
use Rattle.dl_base.specs.declared.value.LinkRow.{LinkRow}
use Rattle.meaning_settling.specs.Keyed.{Keyed}
use Rattle.compare_every.proofs.Maps.{values-length}
use Rattle.compare_every.proofs.every.EveryLink.len.Goals as goal

pub returns : goal.returns
returns c =
    c.len.ensures ∙ ap (λ (ks : List (List ℕ)). length ks) c.self.invariant.0 ∙ values-length c.self.inside.rows.entries c.self.invariant.1
    ∙ ap (λ (m : Keyed LinkRow). length (maps.values m)) c.self.view_is
