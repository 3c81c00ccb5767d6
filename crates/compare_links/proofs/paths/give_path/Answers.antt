use Rattle.std.specs.BTreeSet.{contains}
use Rattle.std.specs.Cmp.Lexicographic.{slice_cmp}
use Rattle.std.specs.Ordering.{nat_cmp}
use Rattle.compare_every.proofs.Maps.{out-key}
use Rattle.compare_links.proofs.paths.give_path.Goals as goal

pub returns : goal.returns
returns c q = out-key c.args.path.now q (contains (slice_cmp nat_cmp) c.remove.new.self q) (contains (slice_cmp nat_cmp) c.args.paths.now q) (c.remove.ensures.updates.0 q)
