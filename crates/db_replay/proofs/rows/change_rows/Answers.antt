use Rattle.std.proofs.Common.{◌≡◌, true, false, map, rules}
use Rattle.std.specs.List.{list_all}
use Rattle.meaning_areas.specs.Commits.{rising}
use Rattle.db_replay.specs.Rows.{is_below}
use Rattle.db_replay.proofs.RowLaws.{none_falling, none_high}
use Rattle.db_replay.proofs.rows.change_rows.Goals as goal

pub returns-then-not-numbers_rise : goal.returns-then-not-numbers_rise
returns-then-not-numbers_rise c =
    let falls : rising 0 (map (λ x. x.number) c.args.made.now) ≡ false = search rules in
    none_falling (record c.args.table.now { next = c.args.next }) c.args.made.now falls

pub returns-then-not-are_below : goal.returns-then-not-are_below
returns-then-not-are_below c =
    let rises : rising 0 (map (λ x. x.number) c.args.made.now) ≡ true = search rules in
    let past : list_all (is_below c.args.next) c.args.made.now ≡ false = search rules in
    none_high (record c.args.table.now { next = c.args.next }) c.args.made.now rises past
