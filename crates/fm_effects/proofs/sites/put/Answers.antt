use Rattle.std.proofs.Common.{ℕ, List, Some, cond, ap, ◌∙◌}
use Rattle.std.specs.BTreeMap.{get}
use Rattle.std.specs.Cmp.Lexicographic.{slice_cmp}
use Rattle.std.specs.Ordering.{nat_cmp}
use Rattle.fm_effects.proofs.Keys.{turned}
use Rattle.meaning_settling.specs.Keyed.{is_at}
use Rattle.fm_effects.proofs.sites.put.Goals as goal

pub returns : goal.returns
returns c q =
    c.in_ok-insert.ensures.updates.0 q
    ∙ ap (λ b. cond b (Some c.args.site) (get (slice_cmp nat_cmp) c.args.sites.now q)) (turned c.in_ok-path.path q ∙ ap (λ (p : List ℕ). is_at q p) c.in_ok-path.ensures)
