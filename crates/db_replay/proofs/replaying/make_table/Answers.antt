use Rattle.std.proofs.Common.{◌≡◌, ◌++◌, ◌∷◌, [], ℕ, true, IfOk, List, None, Option, ap, subst, ◌∙◌, rules}
use Rattle.std.specs.Bool.{then_some}
use Rattle.dl_base.specs.declared.column.Column.{Column}
use Rattle.dl_codec.specs.declared.rows.TableChange.TheVariants as changes
use Rattle.meaning_areas.specs.Commits.{columns_stand, with_table_change}
use Rattle.meaning_tables.specs.Tables.{Tables, new_table, table_of}
use Rattle.db_replay.proofs.Changing.{new_as_kept}
use Rattle.db_replay.proofs.replaying.make_table.Goals as goal

pub returns : goal.returns
returns c =
    let v = c.args.version in
    let ts = c.args.tables.now in
    let name = c.args.name.now in
    let columns = c.args.columns.now in
    let none : table_of ts name ≡ None = search rules in
    let stand : columns_stand columns ≡ true = search rules in
    let added : c.add.new.self ≡ ts ++ (name, new_table columns) ∷ [] =
    c.in_ok-add.ensures.ok
    ∙ ap (λ (n : List ℕ). ts ++ (n, new_table c.in_ok-copy-2.field-0) ∷ []) c.in_ok-copy.ensures
    ∙ ap (λ (cs : List Column). ts ++ (name, new_table cs) ∷ []) c.in_ok-copy-2.ensures in
    subst (λ (o : Option Tables). IfOk c.change_table.result (λ applies. o ≡ then_some applies c.change_table.new.tables))
    (ap (λ (us : Tables). with_table_change v us (changes.Kept name c.args.next c.args.rows.now)) added ∙ new_as_kept v ts name columns c.args.next c.args.rows.now none stand)
    c.change_table.ensures
