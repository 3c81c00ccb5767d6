use Rattle.fm_branch.proofs.Given.{given-turn}
use Rattle.fm_branch.proofs.vote.paths_of.Goals as goal

pub loop-link-preserved : goal.loop-link-preserved
loop-link-preserved c q =
    given-turn c.as_slice-link-items.result.now c.args.links.now c.loop-link.link-index c.link-item.result c.as_slice-link-items.ensures c.loop-link-test.true c.link-item.is
    c.in_ok-path.path c.in_ok-path.ensures c.loop-link.paths c.insert.new.self c.in_ok-insert.ensures.updates.0 q (c.loop-link.invariant q)
