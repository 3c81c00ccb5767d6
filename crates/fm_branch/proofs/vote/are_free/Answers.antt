use Rattle.std.proofs.Common.{◌≡◌, true, false, ap, sym, ◌∙◌, rules}
use Rattle.std.specs.FinMap as maps
use Rattle.dl_codec.specs.declared.links.Taken.{Taken}
use Rattle.fm_branch.specs.Held.{held_in}
use Rattle.fm_branch.proofs.Lists.{all-off, all-on}
use Rattle.meaning_areas.specs.Branches.{given_on, is_free}
use Rattle.fm_branch.proofs.vote.are_free.Goals as goal

pub returns-then-not-is_free : goal.returns-then-not-is_free
returns-then-not-is_free c =
    let d = c.take-item.result in
    let asked : c.is_free.result ≡ is_free (maps.get (held_in c.args.held.now) d.link.path) (given_on c.args.gives.now d.link.path) =
    c.is_free.ensures ∙ ap (λ b. is_free (maps.get (held_in c.args.held.now) d.link.path) b) (c.in_ok-given.ensures d.link.path) in
    let no : c.is_free.result ≡ false = search rules in
    all-off (λ (t : Taken). is_free (maps.get (held_in c.args.held.now) t.link.path) (given_on c.args.gives.now t.link.path)) c.as_slice-take-items.result.now c.args.takes.now c.loop-take.take-index d
    c.as_slice-take-items.ensures c.loop-take-test.true c.take-item.is (sym asked ∙ no) c.loop-take.invariant

pub loop-take-preserved : goal.loop-take-preserved
loop-take-preserved c =
    let d = c.take-item.result in
    let asked : c.is_free.result ≡ is_free (maps.get (held_in c.args.held.now) d.link.path) (given_on c.args.gives.now d.link.path) =
    c.is_free.ensures ∙ ap (λ b. is_free (maps.get (held_in c.args.held.now) d.link.path) b) (c.in_ok-given.ensures d.link.path) in
    let yes : c.is_free.result ≡ true = search rules in
    all-on (λ (t : Taken). is_free (maps.get (held_in c.args.held.now) t.link.path) (given_on c.args.gives.now t.link.path)) c.as_slice-take-items.result.now c.args.takes.now c.loop-take.take-index d
    c.as_slice-take-items.ensures c.loop-take-test.true c.take-item.is (sym asked ∙ yes) c.loop-take.invariant
