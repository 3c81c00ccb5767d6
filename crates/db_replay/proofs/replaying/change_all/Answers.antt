use Rattle.std.proofs.Common.{◌≡◌, ◌+◌, Bool, true, List, Option, Some, drop, sym, ap, ◌∙◌, rules}
use Rattle.std.specs.Bool.{then_some}
use Rattle.std.specs.Option.{option_and_then}
use Rattle.dl_codec.specs.declared.rows.TableChange.{TableChange}
use Rattle.meaning_areas.specs.Commits.{with_table_change, with_table_changes}
use Rattle.meaning_tables.specs.Tables.{Tables}
use Rattle.db_replay.proofs.Loops.{next}
use Rattle.db_replay.proofs.replaying.change_all.Goals as goal

pub loop-change-preserved : goal.loop-change-preserved
loop-change-preserved c =
    let v = c.args.version in
    let rest = drop (c.loop-change.change-index + 1) c.args.changes.now in
    let applies : c.in_ok-change_one.field-0 ≡ true = search rules in
    let done : with_table_change v c.loop-change.tables c.change-item.result ≡ Some c.change_one.new.tables =
    c.in_ok-change_one.ensures ∙ ap (λ (b : Bool). then_some b c.change_one.new.tables) applies in
    let split = next c.as_slice-change-items.result.now c.args.changes.now c.loop-change.change-index c.change-item.result c.as_slice-change-items.ensures c.loop-change-test.true c.change-item.is in
    ap (λ (o : Option Tables). option_and_then (λ (us : Tables). with_table_changes v us rest) o) (sym done)
    ∙ ap (λ (cs : List TableChange). with_table_changes v c.loop-change.tables cs) (sym split)
    ∙ c.loop-change.invariant
