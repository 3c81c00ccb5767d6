use Rattle.std.proofs.Common.{◌≡◌, ℕ, List, None, Some, ap, sym, ◌∙◌}
use Rattle.std.specs.List.{slice_get}
use Rattle.std.specs.Option.{option_copied, option_map}
use Rattle.meaning_tables.specs.Tables.{Rows}
use Rattle.sql_table.specs.Roomy.{Roomy}
use Rattle.sql_table.proofs.Left.{left}
use Rattle.sql_table.proofs.Named.{item_seen, zip_at, zip_past}
use Rattle.sql_table.proofs.roomy.RoomyTables.at.Goals as goal

pub returns-in_err-name-clause-value : goal.returns-in_err-name-clause-value
returns-in_err-name-clause-value c =
    let look : option_copied c.get.result ≡ slice_get c.deref.result.now c.args.index = item_seen (λ name. name.now) c.deref.result.now c.args.index c.get.result c.get.ensures.lookup in
    let past : slice_get c.self.inside.names.items c.args.index ≡ None = ap (λ names. slice_get names c.args.index) (sym c.deref.ensures.value) ∙ sym look ∙ ap option_copied c.in_err-name.was in
    ap (option_map (λ t. (t.0.now, t.1.now))) c.from_residual.ensures ∙ sym (zip_past c.self.inside.names.items c.self.inside.tables.items c.args.index past) ∙ ap (λ (r : Roomy). slice_get r.tables c.args.index) c.self.view_is

pub returns-in_err-name-clause-left : goal.returns-in_err-name-clause-left
returns-in_err-name-clause-left c = left (λ t. (t.0.now, t.1.now)) c.args.self.now.tables c.args.index c.from_residual.result (returns-in_err-name-clause-value c)

pub returns-clause-value : goal.returns-clause-value
returns-clause-value c =
    let look : option_copied c.get.result ≡ slice_get c.deref.result.now c.args.index = item_seen (λ name. name.now) c.deref.result.now c.args.index c.get.result c.get.ensures.lookup in
    let name : slice_get c.self.inside.names.items c.args.index ≡ Some c.in_ok-name.name.now = ap (λ names. slice_get names c.args.index) (sym c.deref.ensures.value) ∙ sym look ∙ ap option_copied c.in_ok-name.was in
    let look2 : option_copied c.get-2.result ≡ slice_get c.deref-2.result.now c.args.index = item_seen (λ table. table.now) c.deref-2.result.now c.args.index c.get-2.result c.get-2.ensures.lookup in
    let table : slice_get c.self.inside.tables.items c.args.index ≡ Some c.in_ok-table.table.now = ap (λ tables. slice_get tables c.args.index) (sym c.deref-2.ensures.value) ∙ sym look2 ∙ ap option_copied c.in_ok-table.was in
    sym (zip_at c.self.inside.names.items c.self.inside.tables.items c.args.index c.in_ok-name.name.now c.in_ok-table.table.now name table) ∙ ap (λ (r : Roomy). slice_get r.tables c.args.index) c.self.view_is

pub returns-clause-left : goal.returns-clause-left
returns-clause-left c = left (λ (t : List ℕ × Rows). t) c.args.self.now.tables c.args.index (Some (c.in_ok-name.name.now, c.in_ok-table.table.now)) (returns-clause-value c)
