use Rattle.std.proofs.Common.{ℕ, List, ◌||◌, ap, ◌∙◌}
use Rattle.std.specs.BTreeSet.{contains}
use Rattle.std.specs.Cmp.Lexicographic.{slice_cmp}
use Rattle.std.specs.Ordering.{nat_cmp}
use Rattle.meaning_settling.specs.Keyed.{is_at}
use Rattle.compare_every.proofs.Maps.{put-key}
use Rattle.compare_links.proofs.paths.take_path.Goals as goal

pub returns-clause-paths : goal.returns-clause-paths
returns-clause-paths c q =
    put-key c.in_ok-copy.field-0 q (contains (slice_cmp nat_cmp) c.insert.new.self q) (contains (slice_cmp nat_cmp) c.args.paths.now q) (c.in_ok-new.ensures.updates.0 q)
    ∙ ap (λ (p : List ℕ). is_at q p || contains (slice_cmp nat_cmp) c.args.paths.now q) c.in_ok-copy.ensures
