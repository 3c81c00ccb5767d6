use Rattle.std.proofs.Common.{◌≡◌, true, rules}
use Rattle.std.specs.BTreeSet.{contains}
use Rattle.std.specs.Cmp.Lexicographic.{slice_cmp}
use Rattle.std.specs.Ordering.{nat_cmp}
use Rattle.bk_losing.proofs.WayLaws.{put-given}
use Rattle.bk_losing.proofs.way.put_path.Goals as goal

pub returns : goal.returns
returns c q =
    let on : c.args.give.now.options.recovery ≡ true = search rules in
    put-given c.args.give.now.options.recovery on c.in_ok-copy.field-0 c.args.give.now.path q c.in_ok-copy.ensures
    (contains (slice_cmp nat_cmp) c.args.made.now q) (contains (slice_cmp nat_cmp) c.insert.new.self q) (c.in_ok-insert.ensures.updates.0 q)
