use Rattle.std.proofs.Common.{◌≡◌, true, false, rules}
use Rattle.std.specs.FinMap as maps
use Rattle.fm_branch.specs.Held.{held_in}
use Rattle.fm_branch.proofs.Lists.{all-off, all-on}
use Rattle.meaning_areas.specs.Branches.{holds}
use Rattle.fm_branch.proofs.vote.are_held.Goals as goal

pub returns-then-not-holds : goal.returns-then-not-holds
returns-then-not-holds c =
    let d = c.link-item.result in
    let no : holds (maps.get (held_in c.args.held.now) d.path) d ≡ false = search rules in
    all-off (λ g. holds (maps.get (held_in c.args.held.now) g.path) g) c.as_slice-link-items.result.now c.args.gives.now c.loop-link.link-index d
    c.as_slice-link-items.ensures c.loop-link-test.true c.link-item.is no c.loop-link.invariant

pub loop-link-preserved : goal.loop-link-preserved
loop-link-preserved c =
    let d = c.link-item.result in
    let yes : holds (maps.get (held_in c.args.held.now) d.path) d ≡ true = search rules in
    all-on (λ g. holds (maps.get (held_in c.args.held.now) g.path) g) c.as_slice-link-items.result.now c.args.gives.now c.loop-link.link-index d
    c.as_slice-link-items.ensures c.loop-link-test.true c.link-item.is yes c.loop-link.invariant
