use Rattle.std.proofs.Common.{List, [], ◌∷◌, ◌++◌, false, is_some, sym, ◌∙◌, ap}
use Rattle.std.specs.FinMap as maps
use Rattle.dl_base.specs.declared.value.LinkRow.{LinkRow}
use Rattle.fm_archive.specs.Stock.{Stock}
use Rattle.fs_files.specs.Store.{Catalog}
use Rattle.meaning_settling.specs.Settling.{Kept, Moved, link_key}
use Rattle.sys_core.proofs.Stored.{one-copy}
use Rattle.sys_core.proofs.archive.copy_for.Goals as goal

pub returns : goal.returns
returns c =
    let row = c.args.row in
    let m = c.args.manager.now in
    let moved : Moved = record { gives = row ∷ []; takes = []; fill = false } in
    let kept : Kept = record { files = m.files.files; copies = m.archive.copies; held = maps.empty } in
    let one = sym (c.in_ok-push.ensures.ok ∙ ap (λ (xs : List LinkRow). xs ++ row ∷ []) c.empty-rows.ensures) in
    one-copy row (maps.get m.archive.copies (link_key row.link)) (maps.get m.files.files row.path) c.in_ok-made.made c.pop.new.self c.pop.result
    (c.in_ok-made.ensures moved kept one (ap (λ (x : Catalog). x.files) (sym c.files.ensures)) (ap (λ (x : Stock). x.copies) (sym c.copies.ensures)))
    c.pop.ensures.last (λ e. c.pop.ensures.none.0 (ap is_some e))
