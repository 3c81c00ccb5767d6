use Rattle.std.proofs.Common.{◌≡◌, ◌≤◌, ℕ, List, true, false, length, get_or, sym, ap, subst, ◌∙◌, rules}
use Rattle.std.specs.BTreeMap.{get, is_at as at_query}
use Rattle.std.specs.Cmp.Lexicographic.{slice_cmp}
use Rattle.std.specs.List.{slice_get}
use Rattle.std.specs.Map.{lookup}
use Rattle.std.specs.Ordering.{nat_cmp}
use Rattle.compare_every.proofs.Deciding.{decides-no, decides-yes}
use Rattle.compare_links.proofs.Owning.{all-apart, not-apart, owns-more, owns-none}
use Rattle.compare_every.proofs.Lists.{got}
use Rattle.compare_links.proofs.apart.are_apart.Goals as goal

pub loop-tx-init : goal.loop-tx-init
loop-tx-init c =
    owns-none c.args.branches.now.links (get (slice_cmp nat_cmp) c.new-owners.result) c.args.txs.now
    (λ q. ap (λ (es : List (List ℕ × ℕ)). lookup (at_query (slice_cmp nat_cmp q)) es) c.new-owners.ensures.empty)

pub returns-then-not-branch : goal.returns-then-not-branch
returns-then-not-branch c =
    let off : c.in_ok-put_branch.field-0 ≡ false = search rules in
    decides-no (not-apart c.args.branches.now.links (get (slice_cmp nat_cmp) c.loop-tx.owners) c.args.txs.now c.loop-tx.tx-index (get_or c.as_slice-tx-items.result.now c.loop-tx.tx-index 0)
    (sym c.in_ok-put_branch.ensures.clear ∙ off) c.loop-tx.invariant)

pub loop-tx-preserved : goal.loop-tx-preserved
loop-tx-preserved c =
    let on : c.in_ok-put_branch.field-0 ≡ true = search rules in
    let i = c.loop-tx.tx-index in
    owns-more c.args.branches.now.links (get (slice_cmp nat_cmp) c.loop-tx.owners) (get (slice_cmp nat_cmp) c.put_branch.new.owners) c.args.txs.now i (get_or c.as_slice-tx-items.result.now i 0)
    (ap (λ (ts : List ℕ). slice_get ts i) (sym c.as_slice-tx-items.ensures) ∙ got c.as_slice-tx-items.result.now i 0 c.loop-tx-test.true)
    (sym c.in_ok-put_branch.ensures.clear ∙ on) (c.in_ok-put_branch.ensures.owners on) c.loop-tx.invariant

pub returns : goal.returns
returns c =
    let past : length c.args.txs.now ≤ c.loop-tx.tx-index = subst (λ (ts : List ℕ). length ts ≤ c.loop-tx.tx-index) c.as_slice-tx-items.ensures c.loop-tx-test.false in
    decides-yes (all-apart c.args.branches.now.links (get (slice_cmp nat_cmp) c.loop-tx.owners) c.args.txs.now c.loop-tx.tx-index past c.requires c.loop-tx.invariant)
