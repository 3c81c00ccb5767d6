use Rattle.std.proofs.Common.{ℕ, sym, ap, ◌∙◌}
use Rattle.std.specs.List.{insert}
use Rattle.std.proofs.lemmas.Result.{IfOk-weaker}
use Rattle.dl_base.specs.declared.value.Row.{Row}
use Rattle.sql_table.proofs.Numbers.{falls}
use Rattle.sql_table.proofs.Placing.{placed_at}
use Rattle.sql_table.proofs.table.replaying.placed.Goals as goal

pub returns : goal.returns
returns c =
    let rows = c.args.rows.now in
    let point = c.partition_point-place.ensures.point (falls 0 c.args.next c.args.number rows c.requires.rise) in
    let at = placed_at c.args.number c.partition_point-place.result rows c.args.row c.requires.new point in
    IfOk-weaker c.inserted.result _ _ (λ made is. is ∙ ap (λ (r : ℕ × Row). insert rows c.partition_point-place.result r) c.in_ok-item.ensures ∙ sym at) c.inserted.ensures
