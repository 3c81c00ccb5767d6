use Rattle.std.proofs.Common.{◌≡◌, ◌≤◌, ◌+◌, List, true, false, length, drop, refl, subst, rules}
use Rattle.std.specs.Cmp.Lexicographic.{slice_cmp}
use Rattle.std.specs.FinMap as maps
use Rattle.std.specs.Ordering.{nat_cmp}
use Rattle.dl_base.specs.declared.value.LinkRow.{LinkRow}
use Rattle.compare_every.proofs.Deciding.{decides-no}
use Rattle.compare_links.proofs.Holding.{all-left, left-not, left-turn, none-left as nothing-left}
use Rattle.compare_every.proofs.Lists.{left, none-left}
use Rattle.compare_links.proofs.held.are_all_held.Goals as goal

pub returns-then-not-take_out : goal.returns-then-not-take_out
returns-then-not-take_out c =
    let l = c.link-item.result in
    let off : c.take_out.result ≡ false = search rules in
    decides-no (left-not (maps.from_entries {R = slice_cmp nat_cmp} c.args.held.entries) (maps.from_entries c.loop-link.left.entries) c.args.links.now (drop c.loop-link.link-index c.args.links.now) (drop (c.loop-link.link-index + 1) c.args.links.now) l
    (left c.as_slice-link-items.result.now c.args.links.now c.loop-link.link-index l c.as_slice-link-items.ensures c.loop-link-test.true c.link-item.is) c.take_out.result c.take_out.ensures.was off c.loop-link.invariant)

pub loop-link-preserved : goal.loop-link-preserved
loop-link-preserved c =
    let l = c.link-item.result in
    let on : c.take_out.result ≡ true = search rules in
    left-turn (maps.from_entries {R = slice_cmp nat_cmp} c.args.held.entries) (maps.from_entries c.loop-link.left.entries) (maps.from_entries c.take_out.new.held.entries) c.args.links.now (drop c.loop-link.link-index c.args.links.now) (drop (c.loop-link.link-index + 1) c.args.links.now) l
    (left c.as_slice-link-items.result.now c.args.links.now c.loop-link.link-index l c.as_slice-link-items.ensures c.loop-link-test.true c.link-item.is) c.take_out.ensures.left (c.take_out.ensures.was.0 on) c.loop-link.invariant

pub returns : goal.returns
returns c =
    let past : length c.args.links.now ≤ c.loop-link.link-index = subst (λ (ls : List LinkRow). length ls ≤ c.loop-link.link-index) c.as_slice-link-items.ensures c.loop-link-test.false in
    all-left (maps.from_entries {R = slice_cmp nat_cmp} c.args.held.entries) (maps.from_entries c.loop-link.left.entries) c.args.links.now (drop c.loop-link.link-index c.args.links.now) (none-left c.args.links.now c.loop-link.link-index past)
    c.is_empty.result (nothing-left c.loop-link.left.entries (length c.loop-link.left.entries) refl c.is_empty.result c.is_empty.ensures) c.loop-link.invariant
