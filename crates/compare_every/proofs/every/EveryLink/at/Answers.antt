use Rattle.std.proofs.Common.{ℕ, List, sym, ap, ◌∙◌}
use Rattle.std.specs.FinMap as maps
use Rattle.std.specs.List.{slice_get}
use Rattle.std.specs.Option.{option_copied}
use Rattle.dl_base.specs.declared.value.LinkRow.{LinkRow}
use Rattle.meaning_settling.specs.Keyed.{Keyed}
use Rattle.compare_every.proofs.Maps.{no-value, value-of-key}
use Rattle.compare_every.proofs.every.EveryLink.at.Goals as goal

pub returns-in-Some : goal.returns-in-Some
returns-in-Some c =
    value-of-key c.self.inside.rows.entries c.self.invariant.1 c.args.index c.in-Some.number.now (option_copied c.get.result)
    (sym (c.in-Some.ensures ∙ ap (λ (ks : List (List ℕ)). slice_get ks c.args.index) c.self.invariant.0)) c.get.ensures.value
    ∙ ap (λ (m : Keyed LinkRow). slice_get (maps.values m) c.args.index) c.self.view_is

pub returns-in-None : goal.returns-in-None
returns-in-None c =
    no-value c.self.inside.rows.entries c.self.invariant.1 c.args.index (sym (c.in-None.ensures ∙ ap (λ (ks : List (List ℕ)). slice_get ks c.args.index) c.self.invariant.0))
    ∙ ap (λ (m : Keyed LinkRow). slice_get (maps.values m) c.args.index) c.self.view_is
