use Rattle.std.proofs.Common.{◌≡◌, ◌==◌, ap, sym, ◌∙◌}
use Rattle.std.specs.Prelude.{slice_set}
use Rattle.std.specs.Cmp.Lexicographic.{pointwise}
use Rattle.std.specs.List.{position_or_len, slice_get, zip}
use Rattle.std.specs.Option.{ghost_name_of, option_copied_mut}
use Rattle.meaning_tables.specs.Tables.{Rows, table_of, with_table}
use Rattle.sql_table.specs.Roomy.{Roomy}
use Rattle.sql_table.proofs.Named.{item_seen, looked_up, set_there}
use Rattle.sql_table.proofs.roomy.RoomyTables.table_mut.Goals as goal
use borrow.Follows.Closed.{read_of}

pub returns : goal.returns
returns c =
    let test = pointwise ◌==◌ c.args.name.now in
    let names = c.self.inside.names.items in
    let tables = c.self.inside.tables.items in
    let place : c.place-place.result ≡ position_or_len test names = c.place-place.ensures ∙ ap (λ ns. position_or_len test ns) c.deref.ensures.value in
    let there : option_copied_mut c.get_mut.result ≡ slice_get tables c.place-place.result = item_seen (λ table. table.now) tables c.place-place.result c.get_mut.result c.get_mut.ensures.item in
    let written : (t : Rows) → zip names (slice_set tables c.place-place.result t) ≡ with_table c.args.self.now.tables c.args.name.now t =
    λ t. ap (λ i. zip names (slice_set tables i t)) place ∙ set_there test names tables t c.self.invariant.0.each ∙ ap (λ (r : Roomy). with_table r.tables c.args.name.now t) c.self.view_is in
    let spare = ap (λ (r : Roomy). r.spare) c.self.view_is in (
      λ i. read_of (ghost_name_of c.get_mut.result) (λ (t : Rows). record { tables = written t i; spare = spare i }) (c.self.view_is i),
      record { writes_back = tt; value = there ∙ ap (λ i. slice_get tables i) place ∙ sym (looked_up test names tables c.self.invariant.0.each) ∙ ap (λ (r : Roomy). table_of r.tables c.args.name.now) c.self.view_is },
    )
