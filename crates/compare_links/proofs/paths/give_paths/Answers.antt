use Rattle.std.proofs.Common.{◌≤◌, List, length, sym, ap, subst, ◌∙◌}
use Rattle.std.specs.BTreeSet.{contains}
use Rattle.std.specs.Cmp.Lexicographic.{slice_cmp}
use Rattle.std.specs.Ordering.{nat_cmp}
use Rattle.dl_base.specs.declared.value.LinkRow.{LinkRow}
use Rattle.compare_links.proofs.PathSets.{give-turn, given-all}
use Rattle.compare_every.proofs.Lists.{none-left}
use Rattle.compare_links.specs.Moving.{without_paths}
use Rattle.compare_links.proofs.paths.give_paths.Goals as goal

pub loop-link-preserved : goal.loop-link-preserved
loop-link-preserved c q =
    give-turn c.as_slice-link-items.result.now c.args.gives.now c.loop-link.link-index c.link-item.result c.as_slice-link-items.ensures c.loop-link-test.true c.link-item.is
    (contains (slice_cmp nat_cmp) c.loop-link.paths) (contains (slice_cmp nat_cmp) c.give_path.new.paths) q (without_paths c.args.gives.now (contains (slice_cmp nat_cmp) c.args.paths.now) q)
    (c.give_path.ensures q) (c.loop-link.invariant q)

pub returns : goal.returns
returns c q =
    let past : length c.args.gives.now ≤ c.loop-link.link-index = subst (λ (ls : List LinkRow). length ls ≤ c.loop-link.link-index) c.as_slice-link-items.ensures c.loop-link-test.false in
    sym (given-all (contains (slice_cmp nat_cmp) c.loop-link.paths) q)
    ∙ sym (ap (λ (ls : List LinkRow). without_paths ls (contains (slice_cmp nat_cmp) c.loop-link.paths) q) (none-left c.args.gives.now c.loop-link.link-index past))
    ∙ c.loop-link.invariant q
