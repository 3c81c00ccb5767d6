use Rattle.std.proofs.Common.{◌&&◌, List, ap, ◌∙◌}
use Rattle.std.specs.FinMap as maps
use Rattle.std.specs.List.{list_all}
use Rattle.dl_base.specs.declared.value.LinkRow.{LinkRow}
use Rattle.compare_files.specs.Copies.{all_stand, has_bytes, is_archived, is_recovered, stands_at}
use Rattle.compare_files.proofs.Decided.{copies-decide}
use Rattle.compare_files.proofs.archive.archive_compares.Goals as goal
use Rattle.meaning_areas.specs.Stands.{open_in, txs_of}
use Rattle.meaning_settling.specs.Settling.{link_key}

pub returns-in-Ok : goal.returns-in-Ok
returns-in-Ok c =
    copies-decide c.args.store.now.rows c.args.branches.now.links c.args.files.now.files c.args.archive.now.copies c.in_ok-settled.settled c.in_ok-settled.ensures
    c.args.every.now c.in-Ok.compared.stored c.in-Ok.ensures.stored c.all_fit-fits.result
    (c.all_fit-fits.ensures ∙ ap (λ (ls : List LinkRow).
    all_stand (stands_at c.in_ok-settled.settled c.args.files.now.files c.args.archive.now.copies c.args.every.now) (open_in c.args.branches.now.links) (txs_of c.args.store.now.rows.commits)
    && list_all (λ l. is_recovered (maps.get c.args.every.now (link_key l))) c.in-Ok.compared.stored
    && list_all (is_archived c.in_ok-settled.settled c.args.files.now.files c.args.archive.now.copies ls) (maps.values c.args.every.now)
    && list_all (has_bytes c.in_ok-settled.settled c.args.files.now.files c.args.archive.now.copies) ls)
    c.in-Ok.ensures.linked)
