use Rattle.std.proofs.Common.{List, ap, is_some, ◌∙◌}
use Rattle.std.specs.List.{list_all}
use Rattle.dl_base.specs.declared.value.LinkRow.{LinkRow}
use Rattle.compare_files.specs.Overlay.{file_at}
use Rattle.compare_files.proofs.Decided.{files-decide}
use Rattle.compare_files.proofs.files.files_compare.Goals as goal

pub returns : goal.returns
returns c =
    files-decide c.args.store.now.rows c.args.branches.now.links c.args.files.now.files c.args.archive.now.copies c.in_ok-settled.settled c.in_ok-settled.ensures c.have_files.result
    (c.have_files.ensures
    ∙ ap (λ (ls : List LinkRow). list_all (λ l. is_some (file_at c.in_ok-settled.settled c.args.files.now.files c.args.archive.now.copies l.path)) ls) c.in_ok-linked.ensures)
