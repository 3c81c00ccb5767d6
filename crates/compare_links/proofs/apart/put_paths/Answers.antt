use Rattle.std.proofs.Common.{Some, cond, arith}
use Rattle.std.specs.BTreeMap.{get}
use Rattle.std.specs.Cmp.Lexicographic.{slice_cmp}
use Rattle.std.specs.Ordering.{nat_cmp}
use Rattle.meaning_areas.specs.Branches.{given_on}
use Rattle.compare_links.proofs.Owning.{put-turn}
use Rattle.std.proofs.lemmas.Grind.{common_steps}
use Rattle.compare_links.proofs.apart.put_paths.Goals as goal

pub loop-link-preserved : goal.loop-link-preserved
loop-link-preserved c q =
    put-turn c.as_slice-link-items.result.now c.args.links.now c.loop-link.link-index c.link-item.result c.as_slice-link-items.ensures c.loop-link-test.true c.link-item.is
    c.args.tx (get (slice_cmp nat_cmp) c.loop-link.owners q) (get (slice_cmp nat_cmp) c.put_path.new.owners q) (cond (given_on c.args.links.now q) (Some c.args.tx) (get (slice_cmp nat_cmp) c.args.owners.now q)) q
    (c.in_ok-put_path.ensures q) (c.loop-link.invariant q)

pub returns : goal.returns
returns c = grind (arith, common_steps)
