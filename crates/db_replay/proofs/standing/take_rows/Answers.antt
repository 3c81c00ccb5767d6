use Rattle.std.proofs.Common.{◌≡◌, ◌+◌, ◌&&◌, Bool, true, drop, List, sym, ap, ◌∙◌, rules, arith}
use Rattle.dl_codec.specs.declared.rows.RowChange.{RowChange}
use Rattle.meaning_tables.specs.Fits.{fits}
use Rattle.meaning_tables.specs.Tables.{Tables}
use Rattle.db_replay.specs.Replaying.{columns_stand_in}
use Rattle.db_replay.specs.Standing.{is_row, without_rows}
use Rattle.db_replay.proofs.Changing.{columns_stripped}
use Rattle.db_replay.proofs.Loops.{next}
use Rattle.std.proofs.lemmas.Grind.{common_steps}
use Rattle.db_replay.proofs.standing.take_rows.Goals as goal

pub loop-change-preserved : goal.loop-change-preserved
loop-change-preserved c =
    let name = c.args.name.now in
    let was = c.loop-change.left in
    let after = c.take_row.new.left in
    let x = c.change-item.result in
    let rest = drop (c.loop-change.change-index + 1) c.args.made.now in
    let ok : c.in_ok-take_row.field-0 ≡ true = search rules in
    let at = next c.as_slice-change-items.result.now c.args.made.now c.loop-change.change-index x c.as_slice-change-items.ensures c.loop-change-test.true c.change-item.is in
    record {
      same = c.loop-change.invariant.same ∙ c.in_ok-take_row.ensures.stand ∙ ap (λ (b : Bool). b && fits after) ok;
      rest = ap (λ (ts : Tables). without_rows ts name rest) c.in_ok-take_row.ensures.taken ∙ ap (λ (xs : List RowChange). without_rows was name xs) (sym at) ∙ c.loop-change.invariant.rest;
      columns = ap (λ (ts : Tables). columns_stand_in ts) c.in_ok-take_row.ensures.taken ∙ columns_stripped (is_row name x.number) was ∙ c.loop-change.invariant.columns;
    }

pub returns-clause-stand : goal.returns-clause-stand
returns-clause-stand c = grind (arith, common_steps)
