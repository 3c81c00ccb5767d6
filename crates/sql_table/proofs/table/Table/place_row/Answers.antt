use Rattle.std.proofs.Common.{◌≡◌, ℕ, OnOk, List, subst}
use Rattle.dl_base.specs.declared.value.Row.{Row}
use Rattle.sql_table.proofs.Placing.{placed_over}
use Rattle.sql_table.proofs.table.Table.place_row.Goals as goal

pub returns-in-Some-clause-ok : goal.returns-in-Some-clause-ok
returns-in-Some-clause-ok c =
    let t = c.args.self.now in
    subst (λ (rs : List (ℕ × Row)). OnOk c.exchange.result (c.exchange.new.self ≡ record t { rows = rs })) (placed_over t.next c.args.number c.in-Some.place t.rows c.args.row c.next_number.ensures.numbered c.in-Some.ensures) c.exchange.ensures.ok
