use Rattle.std.proofs.Common.{List, sym, ap, ◌∙◌, refl}
use Rattle.std.specs.Cmp.Lexicographic.{pointwise}
use Rattle.std.specs.Ordering.{is_eq}
use Rattle.std.proofs.lemmas.Result.{IfOk-weaker}
use Rattle.sql_table.proofs.Marking.{other_equal, other_moved}
use Rattle.sql_table.proofs.index.with_other_marks.Goals as goal

pub returns-then-are_equal : goal.returns-then-are_equal
returns-then-are_equal g c =
    let R = g.K.Ordered.order in
    let o = g.met.K.Ordered.total in
    let equal = ap (λ (ks : List g.row.K.Denot). pointwise (λ m o. is_eq (R m o)) ks c.args.marks) (sym c.as_slice.ensures)
    ∙ ap (λ (ks : List g.row.K.Denot). pointwise (λ m o. is_eq (R m o)) c.as_slice.result.now ks) (sym c.as_slice-2.ensures) ∙ sym c.are_equal.ensures ∙ c.if-are_equal.true in
    IfOk-weaker c.share.result _ _ (λ made is. other_equal R o c.args.before c.args.marks c.args.number c.args.index.now made c.requires equal is) c.share.ensures

pub returns : goal.returns
returns g c =
    let R = g.K.Ordered.order in
    IfOk-weaker c.with_marks.result _ _ (λ made more. other_moved R c.args.before c.args.marks c.args.number c.args.index.now c.in_ok-left.left made c.in_ok-left.ensures more) c.with_marks.ensures

pub same-marks : goal.same-marks
same-marks g c = refl

pub with_marks-requires : goal.with_marks-requires
with_marks-requires g c = c.in_ok-left.ensures.sorted
