use Rattle.std.proofs.Common.{ap, ◌∙◌}
use Rattle.fs_files.specs.Table.{Table}
use Rattle.fs_files.proofs.Tables.{files_of_reordered}
use Rattle.fs_files.proofs.table.FileTable.make_room.Goals as goal

pub returns-clause-files : goal.returns-clause-files
returns-clause-files c =
    files_of_reordered c.self.inside.entries.entries c.reserve.new.self.entries c.reserve.ensures.entries.2
    ∙ ap (λ (t : Table). t.files) c.self.view_is
