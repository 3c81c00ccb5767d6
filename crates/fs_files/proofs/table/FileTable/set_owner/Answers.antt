use Rattle.std.proofs.Common.{refl, sym, ap, ◌∙◌, is_some, Option, nat_eq}
use Rattle.std.specs.Cmp.Lexicographic.{pointwise}
use Rattle.std.specs.FinMap as map
use Rattle.std.specs.Map.{lookup}
use Rattle.dl_base.specs.declared.file.File.{File}
use Rattle.meaning_files.specs.Files.{with_owner}
use Rattle.fs_files.specs.Table.{Table}
use Rattle.fs_files.proofs.Tables.{files_of, get-files_of, files_of_with_owner}
use Rattle.fs_files.proofs.table.FileTable.set_owner.Goals as goal

pub returns-clause-found : goal.returns-clause-found
returns-clause-found c =
    c.renew.ensures.found ∙ ap is_some (sym (get-files_of c.self.inside.entries.entries c.args.path.now))
    ∙ ap (λ (t : Table). is_some (map.get t.files c.args.path.now)) c.self.view_is

pub returns-clause-changed : goal.returns-clause-changed
returns-clause-changed c =
    let old = c.self.inside.entries.entries in
    files_of_with_owner old c.renew.new.entries.entries c.args.path.now c.renew.ensures.others c.args.owner c.args.before
    (lookup (pointwise nat_eq c.args.path.now) old) refl c.renew.ensures.entry
    ∙ ap (λ (at : Option File). with_owner (files_of old) c.args.path.now c.args.owner c.args.before at) (sym (get-files_of old c.args.path.now))
    ∙ ap (λ (t : Table). with_owner t.files c.args.path.now c.args.owner c.args.before (map.get t.files c.args.path.now)) c.self.view_is
