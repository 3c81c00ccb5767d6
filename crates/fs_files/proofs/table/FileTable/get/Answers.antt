use Rattle.std.proofs.Common.{sym, ap, ◌∙◌}
use Rattle.std.specs.FinMap as map
use Rattle.fs_files.specs.Table.{Table}
use Rattle.fs_files.proofs.Tables.{get-files_of}
use Rattle.fs_files.proofs.table.FileTable.get.Goals as goal

pub returns : goal.returns
returns c =
    c.get.ensures.value ∙ sym (get-files_of c.self.inside.entries.entries c.args.path.now)
    ∙ ap (λ (t : Table). map.get t.files c.args.path.now) c.self.view_is
