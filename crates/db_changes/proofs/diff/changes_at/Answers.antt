use Rattle.std.proofs.Common.{◌+◌, ◌++◌, ℕ, List, drop, sym, ap, ◌∙◌, append_assoc, arith}
use Rattle.dl_codec.specs.declared.rows.RowChange.{RowChange}
use Rattle.meaning_tables.specs.Tables.{row_of}
use Rattle.sql_table.proofs.Left.{item_left}
use Rattle.db_changes.specs.Made.{change_at, changes_at}
use Rattle.std.proofs.lemmas.Grind.{common_steps}
use Rattle.db_changes.proofs.diff.changes_at.Goals as goal

pub loop-i-preserved : goal.loop-i-preserved
loop-i-preserved c =
    let was = c.args.was.now.rows in
    let now = c.args.now.now.rows in
    let number = c.item.result.now in
    let rest = drop (c.loop-i.i + 1) c.args.numbers.now in
    ap (λ (xs : List RowChange). xs ++ changes_at was now rest) c.in_ok-put_change.ensures
    ∙ append_assoc c.loop-i.made (change_at (row_of was number) (row_of now number) number) (changes_at was now rest)
    ∙ ap (λ (ns : List ℕ). c.loop-i.made ++ changes_at was now ns) (sym (item_left c.args.numbers.now c.loop-i.i number c.item.ensures)) ∙ c.loop-i.invariant

pub returns : goal.returns
returns c = grind (arith, common_steps)
