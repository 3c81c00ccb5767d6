use Rattle.std.proofs.Common.{◌||◌, drop, ◌+◌}
use Rattle.std.specs.Option.{option_copied}
use Rattle.db_changes.specs.Touched.{among}
use Rattle.bk_restore.specs.Differing.{other_numbers}
use Rattle.bk_restore.proofs.Differing.{others-turn}
use Rattle.bk_restore.proofs.rows.add_others.Goals as goal

pub loop-i-preserved : goal.loop-i-preserved
loop-i-preserved c =
    let first = c.args.first.now.rows in
    let second = c.args.second.now.rows in
    let i = c.loop-i.i in
    let number = c.in-Some.number in
    record {
      rise = c.in_ok-add_if-in-Some.ensures.rise;
      added = λ n.
          others-turn first (drop i second) (drop (i + 1) second) (number, c.in-Some.row.now) (option_copied c.row.result) c.is_changed.result c.loop-i.numbers c.add_if.new.numbers
          c.in-Some.ensures.left c.row.ensures (c.is_changed.ensures number) c.in_ok-add_if-in-Some.ensures.added n (among (other_numbers first second) n || among c.args.numbers.now n) (c.loop-i.invariant.added n);
    }
