use Rattle.std.proofs.Common.{◌<◌, ◌+◌, ◌||◌, ℕ, List, ap, arith, drop, get_or, length, sym, ◌∙◌}
use Rattle.std.proofs.lemmas.List.{drop_more}
use Rattle.db_changes.specs.Touched.{among}
use Rattle.db_changes.proofs.Numbers.{with-next}
use Rattle.db_changes.proofs.touched.added.Goals as goal

pub loop-number-preserved : goal.loop-number-preserved
loop-number-preserved c =
    let ns = c.args.numbers.now in
    let i = c.loop-number.number-index in
    let within : i < length ns = omega arith in
    let more = c.in_ok-made.ensures c.loop-number.invariant.rise in
    record {
      rise = more.sorted;
      added = λ n. with-next c.loop-number.made c.in_ok-made.made (drop (i + 1) ns) (get_or ns i 0) (among ns n || among c.args.set n) n more
          (ap (λ (ms : List ℕ). among ms n || among c.loop-number.made n) (sym (drop_more ns i 0 within)) ∙ c.loop-number.invariant.added n);
    }
