use Rattle.std.proofs.Common.{◌≡◌, Some, None, sym, ap, ◌∙◌, rules, arith}
use Rattle.meaning_tables.specs.Tables.{Rows, table_of, with_table, without_row}
use Rattle.db_replay.specs.Standing.{is_row, stripped}
use Rattle.db_replay.proofs.Seats.{none_named, one_named}
use Rattle.db_replay.proofs.Taking.{on_ok}
use Rattle.std.proofs.lemmas.Grind.{common_steps}
use Rattle.db_replay.proofs.standing.removed.Goals as goal

pub returns-in-Some-clause-stripped : goal.returns-in-Some-clause-stripped
returns-in-Some-clause-stripped c =
    let left = c.args.left.now in
    let name = c.args.name.now in
    let number = c.args.number in
    let t = c.in-Some.table.now in
    let at : table_of left name ≡ Some t = search rules in
    on_ok c.taken_out.result (c.taken_out.new.table ≡ record t { rows = without_row t.rows number }) (with_table left name c.taken_out.new.table ≡ stripped (is_row name number) left)
    (λ e. ap (λ (u : Rows). with_table left name u) e ∙ one_named name number left t c.len.ensures.distinct c.len-in-Some.ensures.numbered at) c.taken_out.ensures.ok

pub returns-in-None-clause-stripped : goal.returns-in-None-clause-stripped
returns-in-None-clause-stripped c =
    let at : table_of c.args.left.now c.args.name.now ≡ None = search rules in
    sym (none_named c.args.name.now c.args.number c.args.left.now at)

pub returns-in-Some-clause-taken : goal.returns-in-Some-clause-taken
returns-in-Some-clause-taken c = grind (arith, common_steps)
