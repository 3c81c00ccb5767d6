use Rattle.std.proofs.Common.{sym, ap, ◌∙◌, is_some, arith}
use Rattle.std.specs.FinMap as map
use Rattle.fs_files.specs.Table.{Table}
use Rattle.fs_files.proofs.Tables.{get-files_of, files_of_removed}
use Rattle.std.proofs.lemmas.Grind.{common_steps}
use Rattle.fs_files.proofs.table.FileTable.remove.Goals as goal

pub returns-clause-found : goal.returns-clause-found
returns-clause-found c =
    c.is_some.ensures ∙ ap is_some (c.remove.ensures.value ∙ sym (get-files_of c.self.inside.entries.entries c.args.path.now))
    ∙ ap (λ (t : Table). is_some (map.get t.files c.args.path.now)) c.self.view_is

pub returns-clause-removed : goal.returns-clause-removed
returns-clause-removed c =
    files_of_removed c.self.inside.entries.entries c.remove.new.self.entries c.args.path.now c.remove.ensures.updates.0
    ∙ ap (λ (t : Table). map.remove t.files c.args.path.now) c.self.view_is

pub returns-clause-room : goal.returns-clause-room
returns-clause-room c = grind (arith, common_steps)
