use Rattle.std.proofs.Common.{ℕ, List, true, cond, ap, ◌∙◌}
use Rattle.std.specs.BTreeSet.{contains}
use Rattle.std.specs.Cmp.Lexicographic.{slice_cmp}
use Rattle.std.specs.List.{list_any}
use Rattle.std.specs.Ordering.{is_eq, nat_cmp}
use Rattle.dl_base.specs.declared.value.LinkRow.{LinkRow}
use Rattle.meaning_settling.specs.Keyed.{is_at}
use Rattle.meaning_settling.specs.Settling.{link_key}
use Rattle.bk_losing.proofs.LostLaws.{any-turn, put-key}
use Rattle.bk_losing.proofs.losing.numbers_of.Goals as goal

pub loop-link-preserved : goal.loop-link-preserved
loop-link-preserved c n =
    let d = c.link-item.result in
    let old = contains (slice_cmp nat_cmp) c.loop-link.made n in
    let new = contains (slice_cmp nat_cmp) c.insert.new.self n in
    any-turn (λ (t : LinkRow). is_at (link_key t.link) n) c.as_slice-link-items.result.now c.args.links.now c.loop-link.link-index d c.as_slice-link-items.ensures c.loop-link-test.true c.link-item.is
    old new (list_any (λ t. is_at (link_key t.link) n) c.args.links.now)
    (put-key (is_at (link_key d.link) n) old new (c.in_ok-insert.ensures.updates.0 n ∙ ap (λ (k : List ℕ). cond (is_eq (slice_cmp nat_cmp k n)) true old) c.number_of-number.ensures))
    (c.loop-link.invariant n)
