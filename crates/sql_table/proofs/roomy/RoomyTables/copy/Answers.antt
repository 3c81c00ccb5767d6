use Rattle.std.proofs.Common.{◌+◌, ◌++◌, drop, sym, ap, ◌∙◌}
use Rattle.sql_table.proofs.Names.{none_before}
use Rattle.sql_table.proofs.roomy.RoomyTables.copy.Goals as goal

pub put_copy-requires : goal.put_copy-requires
put_copy-requires c =
    none_before c.loop-i.made.tables (drop (c.loop-i.i + 1) c.args.self.now.tables) c.args.self.now.tables c.in-Some.name.now c.in-Some.table.now c.len-i-end.ensures.distinct
    (ap (λ es. c.loop-i.made.tables ++ es) (sym c.in-Some.ensures.left) ∙ c.loop-i.invariant)
