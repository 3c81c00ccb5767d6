use Rattle.std.proofs.Common.{ℕ, List, sym, ap, ◌∙◌}
use Rattle.std.specs.Cmp.Lexicographic.{nat_list_cmp_total, slice_cmp}
use Rattle.std.specs.FinMap as maps
use Rattle.std.specs.Ordering.{nat_cmp}
use Rattle.dl_base.specs.declared.value.LinkRow.{LinkRow}
use Rattle.fm_branch.proofs.Maps.{get-of}
use Rattle.meaning_settling.specs.Keyed.{Keyed}
use Rattle.meaning_settling.specs.Settling.{link_key}
use Rattle.compare_every.proofs.every.EveryLink.get.Goals as goal

pub returns : goal.returns
returns c =
    c.get.ensures.value ∙ sym (get-of nat_list_cmp_total c.self.inside.rows.entries c.number_of.result)
    ∙ ap (λ (q : List ℕ). maps.get (maps.from_entries {R = slice_cmp nat_cmp} c.self.inside.rows.entries) q) c.number_of.ensures
    ∙ ap (λ (m : Keyed LinkRow). maps.get m (link_key c.args.link)) c.self.view_is
