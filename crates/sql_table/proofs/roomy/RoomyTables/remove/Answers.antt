use Rattle.std.proofs.Common.{◌++◌, ℕ, get_or, take, drop, subst, ◌≡◌, ◌==◌, ◌<◌, ◌≤◌, not, length, ap, is_some, sym, ◌∙◌, arith}
use Rattle.std.proofs.lemmas.Grind.{common_steps}
use Rattle.std.proofs.lemmas.List.Sums.{prefix_len-le-length}
use Rattle.std.specs.Cmp.Lexicographic.{pointwise}
use Rattle.std.specs.List.{position_or_len, remove}
use Rattle.meaning_tables.specs.Tables.{table_of, without_table}
use Rattle.sql_table.specs.Roomy.{AreOrdered, IsRank, Roomy, lowered}
use Rattle.sql_table.proofs.Named.{named_removed, none_removed, none_there, one_there, removed_there}
use Rattle.sql_table.proofs.Ordered.{ordered_removed, rank_at, taken}
use Rattle.sql_table.proofs.roomy.RoomyTables.remove.Goals as goal

pub returns-then-place-len-clause-found : goal.returns-then-place-len-clause-found
returns-then-place-len-clause-found c =
    let test = pointwise ◌==◌ c.args.name.now in
    let end : position_or_len test c.self.inside.names.items ≡ length c.self.inside.names.items = grind (arith, common_steps) in
    sym (ap (λ (r : Roomy). is_some (table_of r.tables c.args.name.now)) (sym c.self.view_is) ∙ ap is_some (none_there test c.self.inside.names.items c.self.inside.tables.items c.self.invariant.0.each end))

pub returns-then-place-len-clause-tables : goal.returns-then-place-len-clause-tables
returns-then-place-len-clause-tables c =
    let test = pointwise ◌==◌ c.args.name.now in
    let end : position_or_len test c.self.inside.names.items ≡ length c.self.inside.names.items = grind (arith, common_steps) in
    sym (none_removed test c.args.self.now.tables (ap (λ (r : Roomy). table_of r.tables c.args.name.now) (sym c.self.view_is) ∙ none_there test c.self.inside.names.items c.self.inside.tables.items c.self.invariant.0.each end))

pub remove-requires : goal.remove-requires
remove-requires c =
    let test = pointwise ◌==◌ c.args.name.now in
    let names = c.self.inside.names.items in
    let order = c.self.inside.order.items in
    let rank = c.rank-rank.result in
    let place : c.place-place.result ≡ position_or_len test names = c.place-place.ensures ∙ ap (λ ns. position_or_len test ns) c.deref.ensures.value in
    let least : position_or_len test names ≤ length names = prefix_len-le-length (λ name. not (test name)) names in
    let len = c.self.inside.names.ok.0 in
    let within : c.place-place.result < length names = omega (arith, place, least, len, c.len.ensures, c.if-place-len.false) in
    let ranked : IsRank names order c.args.name.now rank =
    subst (λ os. IsRank names os c.args.name.now rank) c.deref-4.ensures.value (subst (λ ns. IsRank ns c.deref-4.result.now c.args.name.now rank) c.deref-3.ensures.value c.rank-rank.ensures) in
    let at = rank_at names order c.self.invariant.1 c.args.name.now rank ranked c.place-place.result place within in
    let long = c.self.inside.order.ok.0 in
    let there = at.0 in
    omega (arith, there, long)

pub remove-requires-2 : goal.remove-requires-2
remove-requires-2 c =
    let test = pointwise ◌==◌ c.args.name.now in
    let names = c.self.inside.names.items in
    let order = c.self.inside.order.items in
    let rank = c.rank-rank.result in
    let place : c.place-place.result ≡ position_or_len test names = c.place-place.ensures ∙ ap (λ ns. position_or_len test ns) c.deref.ensures.value in
    let least : position_or_len test names ≤ length names = prefix_len-le-length (λ name. not (test name)) names in
    let len = c.self.inside.names.ok.0 in
    let within : c.place-place.result < length names = omega (arith, place, least, len, c.len.ensures, c.if-place-len.false) in
    omega (arith, within, len)

pub invariant_of-self : goal.invariant_of-self
invariant_of-self c =
    let test = pointwise ◌==◌ c.args.name.now in
    let names = c.self.inside.names.items in
    let order = c.self.inside.order.items in
    let rank = c.rank-rank.result in
    let place : c.place-place.result ≡ position_or_len test names = c.place-place.ensures ∙ ap (λ ns. position_or_len test ns) c.deref.ensures.value in
    let least : position_or_len test names ≤ length names = prefix_len-le-length (λ name. not (test name)) names in
    let len = c.self.inside.names.ok.0 in
    let within : c.place-place.result < length names = omega (arith, place, least, len, c.len.ensures, c.if-place-len.false) in
    let ranked : IsRank names order c.args.name.now rank =
    subst (λ os. IsRank names os c.args.name.now rank) c.deref-4.ensures.value (subst (λ ns. IsRank ns c.deref-4.result.now c.args.name.now rank) c.deref-3.ensures.value c.rank-rank.ensures) in
    let at = rank_at names order c.self.invariant.1 c.args.name.now rank ranked c.place-place.result place within in
    let p = c.place-place.result in
    let written : c.deref_mut.result.now ≡ remove order rank = c.deref_mut.ensures.value ∙ c.remove.ensures.items in
    let long : length c.lower.new.order ≡ length (remove order rank) = c.lower.ensures.each ∙ ap length written in
    let lower = subst (λ os. (i : ℕ) → i < length os → get_or c.lower.new.order i 0 ≡ lowered p (get_or os i 0)) written c.lower.ensures.at in
    let whole = taken c.remove.new.self.len c.lower.new.order (drop (length c.lower.new.order) c.remove.new.self.items) (c.remove.new.self.ok.0 ∙ ap length c.remove.ensures.items ∙ sym long) in (
      rw (c.remove-2.ensures.items, c.remove-3.ensures.items) (named_removed names c.self.inside.tables.items p c.self.invariant.0),
      subst (λ ns. AreOrdered ns (take c.remove.new.self.len (c.lower.new.order ++ drop (length c.lower.new.order) c.remove.new.self.items))) (sym c.remove-2.ensures.items)
          (subst (λ os. AreOrdered (remove names p) os) (sym whole) (ordered_removed names order c.self.invariant.1 rank at.0 p at.1 c.lower.new.order long lower)),
    )

pub returns-clause-found : goal.returns-clause-found
returns-clause-found c =
    let test = pointwise ◌==◌ c.args.name.now in
    let within : position_or_len test c.self.inside.names.items < length c.self.inside.names.items = grind (arith, common_steps) in
    sym (ap (λ (r : Roomy). is_some (table_of r.tables c.args.name.now)) (sym c.self.view_is) ∙ one_there test c.self.inside.names.items c.self.inside.tables.items c.self.invariant.0.each within)

pub returns-clause-tables : goal.returns-clause-tables
returns-clause-tables c =
    let test = pointwise ◌==◌ c.args.name.now in
    let place : c.place-place.result ≡ position_or_len test c.self.inside.names.items = c.place-place.ensures ∙ ap (λ names. position_or_len test names) c.deref.ensures.value in
    rw (c.remove-2.ensures.items, c.remove-3.ensures.items, place)
    (removed_there test c.self.inside.names.items c.self.inside.tables.items c.self.invariant.0.each ∙ ap (λ (r : Roomy). without_table r.tables c.args.name.now) c.self.view_is)
