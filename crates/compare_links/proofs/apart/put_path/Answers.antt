use Rattle.std.proofs.Common.{ℕ, List, Some, cond, ap, ◌∙◌}
use Rattle.std.specs.BTreeMap.{get}
use Rattle.std.specs.Cmp.Lexicographic.{slice_cmp}
use Rattle.std.specs.Ordering.{nat_cmp}
use Rattle.meaning_settling.specs.Keyed.{is_at}
use Rattle.compare_every.proofs.Maps.{put-value}
use Rattle.compare_links.proofs.apart.put_path.Goals as goal

pub returns : goal.returns
returns c q =
    put-value c.in_ok-copy.field-0 q (get (slice_cmp nat_cmp) c.insert.new.self q) (get (slice_cmp nat_cmp) c.args.owners.now q) (Some c.args.tx) (c.in_ok-insert.ensures.updates.0 q)
    ∙ ap (λ (p : List ℕ). cond (is_at q p) (Some c.args.tx) (get (slice_cmp nat_cmp) c.args.owners.now q)) c.in_ok-copy.ensures
