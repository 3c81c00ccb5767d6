use Rattle.std.proofs.Common.{◌≡◌, ◌+◌, ◌&&◌, Bool, true, drop, List, sym, ap, ◌∙◌, rules, arith}
use Rattle.std.proofs.lemmas.Bool.{OnTrue_at}
use Rattle.dl_codec.specs.declared.rows.TableChange.{TableChange}
use Rattle.meaning_tables.specs.Fits.{fits}
use Rattle.meaning_tables.specs.Tables.{Tables}
use Rattle.db_replay.specs.Replaying.{columns_stand_in}
use Rattle.db_replay.specs.Standing.{without_all, without_changed}
use Rattle.db_replay.proofs.Changing.{columns_without}
use Rattle.db_replay.proofs.Loops.{next}
use Rattle.std.proofs.lemmas.Grind.{common_steps}
use Rattle.db_replay.proofs.standing.take_all.Goals as goal

pub loop-change-preserved : goal.loop-change-preserved
loop-change-preserved c =
    let was = c.loop-change.left in
    let after = c.take_changed.new.left in
    let x = c.change-item.result in
    let rest = drop (c.loop-change.change-index + 1) c.args.changes.now in
    let ok : c.in_ok-take_changed.field-0 ≡ true = search rules in
    let done : after ≡ without_changed was x = OnTrue_at ok c.in_ok-take_changed.ensures.taken in
    let at = next c.as_slice-change-items.result.now c.args.changes.now c.loop-change.change-index x c.as_slice-change-items.ensures c.loop-change-test.true c.change-item.is in
    record {
      same = c.loop-change.invariant.same ∙ c.in_ok-take_changed.ensures.stand ∙ ap (λ (b : Bool). b && fits (without_changed was x)) ok ∙ ap (λ (ts : Tables). fits ts) (sym done);
      rest = ap (λ (ts : Tables). without_all ts rest) done ∙ ap (λ (xs : List TableChange). without_all was xs) (sym at) ∙ c.loop-change.invariant.rest;
      columns = ap (λ (ts : Tables). columns_stand_in ts) done ∙ columns_without was x ∙ c.loop-change.invariant.columns;
    }

pub returns : goal.returns
returns c = grind (arith, common_steps)
