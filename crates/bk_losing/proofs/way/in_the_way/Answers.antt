use Rattle.std.proofs.Common.{◌≡◌, ◌&&◌, ℕ, List, Some, false, not, ap, sym, ◌∙◌, rules}
use Rattle.std.specs.FinMap as maps
use Rattle.meaning_merge.specs.Restoring.{in_the_way, other_bytes}
use Rattle.meaning_settling.specs.Settling.{link_key}
use Rattle.bk_losing.proofs.WayLaws.{is_in, way-off, way-on}
use Rattle.bk_losing.proofs.way.in_the_way.Goals as goal

pub returns-then-is_in_the_way : goal.returns-then-is_in_the_way
returns-then-is_in_the_way c =
    let d = c.take-item.result in
    let files = c.args.files.now.files in
    let copies = c.args.archive.now.copies in
    let asked : c.is_in_the_way.result ≡ is_in files copies c.args.gives.now d =
    c.is_in_the_way.ensures ∙ ap (λ b. d.options.recovery && other_bytes (maps.get files d.path) (maps.get copies (link_key d.link)) && not b) (c.in_ok-given.ensures d.path) in
    ap (λ (p : List ℕ). Some p) c.in_ok-copy.ensures
    ∙ way-on files copies c.args.gives.now c.as_slice-take-items.result.now c.args.takes.now c.loop-take.take-index d c.as_slice-take-items.ensures c.loop-take-test.true c.take-item.is
    (sym asked ∙ c.if-is_in_the_way.true) (in_the_way files copies c.args.gives.now c.args.takes.now) c.loop-take.invariant

pub loop-take-preserved : goal.loop-take-preserved
loop-take-preserved c =
    let d = c.take-item.result in
    let files = c.args.files.now.files in
    let copies = c.args.archive.now.copies in
    let asked : c.is_in_the_way.result ≡ is_in files copies c.args.gives.now d =
    c.is_in_the_way.ensures ∙ ap (λ b. d.options.recovery && other_bytes (maps.get files d.path) (maps.get copies (link_key d.link)) && not b) (c.in_ok-given.ensures d.path) in
    let no : c.is_in_the_way.result ≡ false = search rules in
    way-off files copies c.args.gives.now c.as_slice-take-items.result.now c.args.takes.now c.loop-take.take-index d c.as_slice-take-items.ensures c.loop-take-test.true c.take-item.is
    (sym asked ∙ no) (in_the_way files copies c.args.gives.now c.args.takes.now) c.loop-take.invariant
