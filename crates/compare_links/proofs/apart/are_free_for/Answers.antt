use Rattle.std.proofs.Common.{◌≡◌, true, false, rules, arith}
use Rattle.std.specs.BTreeMap.{get}
use Rattle.std.specs.Cmp.Lexicographic.{slice_cmp}
use Rattle.std.specs.Ordering.{nat_cmp}
use Rattle.fm_branch.proofs.Lists.{all-off, all-on}
use Rattle.compare_links.specs.Fitting.{is_free_for}
use Rattle.std.proofs.lemmas.Grind.{common_steps}
use Rattle.compare_links.proofs.apart.are_free_for.Goals as goal

pub returns-then-not-is_free_for : goal.returns-then-not-is_free_for
returns-then-not-is_free_for c =
    let d = c.link-item.result in
    let no : is_free_for c.args.tx (get (slice_cmp nat_cmp) c.args.owners.now d.path) ≡ false = search rules in
    all-off (λ x. is_free_for c.args.tx (get (slice_cmp nat_cmp) c.args.owners.now x.path)) c.as_slice-link-items.result.now c.args.links.now c.loop-link.link-index d
    c.as_slice-link-items.ensures c.loop-link-test.true c.link-item.is no c.loop-link.invariant

pub loop-link-preserved : goal.loop-link-preserved
loop-link-preserved c =
    let d = c.link-item.result in
    let yes : is_free_for c.args.tx (get (slice_cmp nat_cmp) c.args.owners.now d.path) ≡ true = search rules in
    all-on (λ x. is_free_for c.args.tx (get (slice_cmp nat_cmp) c.args.owners.now x.path)) c.as_slice-link-items.result.now c.args.links.now c.loop-link.link-index d
    c.as_slice-link-items.ensures c.loop-link-test.true c.link-item.is yes c.loop-link.invariant

pub returns : goal.returns
returns c = grind (arith, common_steps)
