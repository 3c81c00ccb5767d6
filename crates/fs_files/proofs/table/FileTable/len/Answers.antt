use Rattle.std.proofs.Common.{sym, ap, ◌∙◌}
use Rattle.std.specs.FinMap as map
use Rattle.fs_files.specs.Table.{Table}
use Rattle.fs_files.proofs.Tables.{len-files_of}
use Rattle.fs_files.proofs.table.FileTable.len.Goals as goal

pub returns : goal.returns
returns c =
    c.len.ensures.len ∙ sym (len-files_of c.self.inside.entries.entries c.len.ensures.unique)
    ∙ ap (λ (t : Table). map.len t.files) c.self.view_is
