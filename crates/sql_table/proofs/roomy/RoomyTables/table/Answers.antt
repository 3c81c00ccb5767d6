use Rattle.std.proofs.Common.{◌≡◌, ◌==◌, ap, sym, ◌∙◌}
use Rattle.std.specs.Cmp.Lexicographic.{pointwise}
use Rattle.std.specs.List.{position_or_len, slice_get}
use Rattle.std.specs.Option.{option_copied}
use Rattle.meaning_tables.specs.Tables.{table_of}
use Rattle.sql_table.specs.Roomy.{Roomy}
use Rattle.sql_table.proofs.Named.{item_seen, looked_up}
use Rattle.sql_table.proofs.roomy.RoomyTables.table.Goals as goal

pub returns : goal.returns
returns c =
    let test = pointwise ◌==◌ c.args.name.now in
    let tables = c.self.inside.tables.items in
    let there : option_copied c.get.result ≡ slice_get c.deref-3.result.now c.place-place.result = item_seen (λ table. table.now) c.deref-3.result.now c.place-place.result c.get.result c.get.ensures.lookup in
    let place : c.place-place.result ≡ position_or_len test c.self.inside.names.items = c.place-place.ensures ∙ ap (λ names. position_or_len test names) c.deref.ensures.value in
    there ∙ ap (λ all. slice_get all c.place-place.result) c.deref-3.ensures.value ∙ ap (λ i. slice_get tables i) place ∙ sym (looked_up test c.self.inside.names.items tables c.self.invariant.0.each)
    ∙ ap (λ (r : Roomy). table_of r.tables c.args.name.now) c.self.view_is
