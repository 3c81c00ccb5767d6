use Rattle.std.proofs.Common.{◌&&◌}
use Rattle.std.specs.BTreeSet.{contains}
use Rattle.std.specs.Cmp.Lexicographic.{slice_cmp}
use Rattle.std.specs.List.{list_any}
use Rattle.std.specs.Ordering.{nat_cmp}
use Rattle.dl_base.specs.declared.value.LinkRow.{LinkRow}
use Rattle.meaning_settling.specs.Keyed.{is_at}
use Rattle.bk_losing.proofs.LostLaws.{any-turn}
use Rattle.bk_losing.proofs.way.given_paths.Goals as goal

pub loop-give-preserved : goal.loop-give-preserved
loop-give-preserved c q =
    any-turn (λ (g : LinkRow). g.options.recovery && is_at q g.path) c.as_slice-give-items.result.now c.args.gives.now c.loop-give.give-index c.give-item.result c.as_slice-give-items.ensures c.loop-give-test.true c.give-item.is
    (contains (slice_cmp nat_cmp) c.loop-give.made q) (contains (slice_cmp nat_cmp) c.put_path.new.made q) (list_any (λ g. g.options.recovery && is_at q g.path) c.args.gives.now)
    (c.in_ok-put_path.ensures q) (c.loop-give.invariant q)
