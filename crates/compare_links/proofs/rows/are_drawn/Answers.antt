use Rattle.std.proofs.Common.{◌≡◌, true, false, rules, arith}
use Rattle.fm_branch.proofs.Lists.{all-off, all-on}
use Rattle.compare_links.specs.Fitting.{is_drawn}
use Rattle.std.proofs.lemmas.Grind.{common_steps}
use Rattle.compare_links.proofs.rows.are_drawn.Goals as goal

pub returns-then-not-is_drawn : goal.returns-then-not-is_drawn
returns-then-not-is_drawn c =
    let d = c.link-item.result in
    let no : is_drawn c.args.opening d ≡ false = search rules in
    all-off (is_drawn c.args.opening) c.as_slice-link-items.result.now c.args.links.now c.loop-link.link-index d
    c.as_slice-link-items.ensures c.loop-link-test.true c.link-item.is no c.loop-link.invariant

pub loop-link-preserved : goal.loop-link-preserved
loop-link-preserved c =
    let d = c.link-item.result in
    let yes : is_drawn c.args.opening d ≡ true = search rules in
    all-on (is_drawn c.args.opening) c.as_slice-link-items.result.now c.args.links.now c.loop-link.link-index d
    c.as_slice-link-items.ensures c.loop-link-test.true c.link-item.is yes c.loop-link.invariant

pub returns : goal.returns
returns c = grind (arith, common_steps)
