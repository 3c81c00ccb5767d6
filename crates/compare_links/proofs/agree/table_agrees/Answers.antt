use Rattle.std.proofs.Common.{◌≡◌, true, sym, ap, ◌∙◌}
use Rattle.std.specs.BTreeMap.{get}
use Rattle.std.specs.Cmp.Lexicographic.{slice_cmp}
use Rattle.std.specs.Ordering.{nat_cmp}
use Rattle.compare_links.proofs.Agreeing.{plain-agrees}
use Rattle.compare_links.specs.Moving.{are_unlinked}
use Rattle.compare_links.proofs.agree.table_agrees.Goals as goal

pub returns-then-are_unlinked : goal.returns-then-are_unlinked
returns-then-are_unlinked c =
    let plain : are_unlinked c.args.table.now.columns ≡ true = ap are_unlinked (sym c.columns.ensures) ∙ sym c.are_unlinked.ensures ∙ c.if-are_unlinked.true in
    sym (plain-agrees (get (slice_cmp nat_cmp) c.args.rows.now) c.args.table.now plain)

pub touched_agree-requires : goal.touched_agree-requires
touched_agree-requires c =
    c.requires c.in-Some.was.now (sym c.in-Some.ensures) (sym c.columns-in-Some.ensures ∙ c.same.ensures.0 c.if-same.true ∙ c.columns-in-Some-2.ensures)
