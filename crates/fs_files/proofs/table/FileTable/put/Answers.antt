use Rattle.std.proofs.Common.{ap, ◌∙◌, arith}
use Rattle.std.specs.FinMap as map
use Rattle.fs_files.specs.Table.{Table}
use Rattle.fs_files.proofs.Tables.{files_of_put}
use Rattle.std.proofs.lemmas.Grind.{common_steps}
use Rattle.fs_files.proofs.table.FileTable.put.Goals as goal

pub returns-clause-ok : goal.returns-clause-ok
returns-clause-ok c =
    files_of_put c.self.inside.entries.entries c.insert.new.self.entries c.args.path c.args.file c.in_ok-insert.ensures.updates.0
    ∙ ap (λ (t : Table). map.insert t.files c.args.path c.args.file) c.self.view_is

pub returns-clause-spare : goal.returns-clause-spare
returns-clause-spare c = grind (arith, common_steps)
