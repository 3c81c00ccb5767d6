use Rattle.std.proofs.Common.{ℕ, List, sym, subst}
use Rattle.bk_backup.proofs.Images.{numbered}
use Rattle.dl_base.specs.declared.value.Row.{Row}
use Rattle.meaning_tables.specs.Tables.{Rise}
use Rattle.bk_backup.proofs.tables.table_of.Goals as goal

pub with_rows-requires : goal.with_rows-requires
with_rows-requires c =
    let image = c.args.image in
    subst (λ (rows : List (ℕ × Row)). Rise 0 image.next rows) (sym c.in_ok-rows.ensures) (numbered 0 image.next image.rows c.requires)
