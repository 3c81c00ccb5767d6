use Rattle.std.proofs.Common.{◌<◌, length, rules, ◌≡◌, None, [], ◌∷◌, ◌++◌, ap, sym, subst, ◌∙◌}
use Rattle.std.specs.List.{insert, zip}
use Rattle.std.specs.Vec.{vec_len, vec_capacity}
use Rattle.meaning_tables.specs.Tables.{Tables, table_of}
use Rattle.sql_table.specs.Roomy.{AreOrdered, IsRank, Roomy}
use Rattle.sql_table.proofs.Named.{named_pushed, zip-push}
use Rattle.sql_table.proofs.Ordered.{inserted_by, name_new, ordered_added}
use Rattle.sql_table.proofs.roomy.RoomyTables.add.Goals as goal

pub invariant_of-self : goal.invariant_of-self
invariant_of-self c =
    let names = c.self.inside.names.items in
    let order = c.self.inside.order.items in
    let rank = c.rank-rank.result in
    let seen : zip names c.self.inside.tables.items ≡ c.args.self.now.tables = ap (λ (r : Roomy). r.tables) c.self.view_is in
    let none : table_of (zip names c.self.inside.tables.items) c.args.name ≡ None = subst (λ (ts : Tables). table_of ts c.args.name ≡ None) (sym seen) c.requires.new in
    let ranked : IsRank names order c.args.name rank =
    subst (λ os. IsRank names os c.args.name rank) c.deref-2.ensures.value (subst (λ ns. IsRank ns c.deref-2.result.now c.args.name rank) c.deref.ensures.value c.rank-rank.ensures) in
    let room : vec_len c.self.inside.order < vec_capacity c.self.inside.order = search rules in
    let inserted : c.insert.new.self.items ≡ insert order rank (length names) =
    inserted_by c.insert.result c.insert.new.self.items (insert order rank c.len.result) order (vec_len c.self.inside.order) (vec_capacity c.self.inside.order) c.insert.ensures.items c.insert.ensures.full room
    ∙ ap (λ n. insert order rank n) (c.len.ensures ∙ c.self.inside.names.ok.0) in (
      rw (c.push_reserved.ensures.items, c.push_reserved-2.ensures.items) (named_pushed names c.self.inside.tables.items c.args.name c.args.table c.self.invariant.0 none),
      subst (λ ns. AreOrdered ns c.insert.new.self.items) (sym c.push_reserved.ensures.items)
          (subst (λ os. AreOrdered (names ++ c.args.name ∷ []) os) (sym inserted) (ordered_added names order c.self.invariant.1 c.args.name rank ranked (name_new names c.self.inside.tables.items c.args.name c.self.invariant.0.each none))),
    )

pub returns-clause-tables : goal.returns-clause-tables
returns-clause-tables c =
    rw (c.push_reserved.ensures.items, c.push_reserved-2.ensures.items)
    (zip-push c.self.inside.names.items c.self.inside.tables.items c.args.name c.args.table c.self.invariant.0.each ∙ ap (λ (r : Roomy). r.tables ++ (c.args.name, c.args.table) ∷ []) c.self.view_is)
