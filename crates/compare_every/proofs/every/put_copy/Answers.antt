use Rattle.std.proofs.Common.{◌≡◌, Some, cond, ◌∙◌}
use Rattle.std.specs.BTreeMap.{get}
use Rattle.std.specs.Cmp.Lexicographic.{slice_cmp}
use Rattle.std.specs.Ordering.{nat_cmp}
use Rattle.meaning_settling.specs.Keyed.{is_at}
use Rattle.meaning_settling.specs.Settling.{link_key}
use Rattle.compare_every.proofs.Maps.{put-value}
use Rattle.compare_every.proofs.every.put_copy.Goals as goal

pub returns : goal.returns
returns c n =
    let row : c.in_ok-row.row ≡ c.args.link.now = c.in_ok-row.ensures in
    let number : c.number_of.result ≡ link_key c.args.link.now.link = c.number_of.ensures in
    put-value c.number_of.result n (get (slice_cmp nat_cmp) c.insert.new.self n) (get (slice_cmp nat_cmp) c.args.rows.now n) (Some c.in_ok-row.row) (c.in_ok-insert.ensures.updates.0 n)
    ∙ (λ i. cond (is_at n (number i)) (Some (row i)) (get (slice_cmp nat_cmp) c.args.rows.now n))
