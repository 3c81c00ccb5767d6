use Rattle.std.proofs.Common.{◌≡◌, true, false, refl, sym, ap, subst, rules}
use Rattle.compare_every.proofs.Deciding.{refuted}
use Rattle.dl_base.specs.declared.area.Area.{Area}
use Rattle.dl_base.specs.declared.area.Area.TheVariants as areas
use Rattle.fm_archive.specs.Stock.{Stock}
use Rattle.fm_branch.specs.Linked.{Linked}
use Rattle.fs_files.specs.Store.{Catalog}
use Rattle.meaning_areas.specs.Areas.{IsUnlike}
use Rattle.sys_opening.proofs.Comparing.{all-compare, unlike-archive, unlike-backups, unlike-files}
use Rattle.sys_owners.specs.Owned.{folds_in}
use Rattle.sys_opening.proofs.compare.compare_rest.Goals as goal

pub returns-then-not-branch-clause-unlike : goal.returns-then-not-branch-clause-unlike
returns-then-not-branch-clause-unlike c area is =
    let f = folds_in c.args.owners.now in
    let branches = ap (λ (l : Linked). l.links) (sym c.branches-branches.ensures) in
    let files = ap (λ (l : Catalog). l.files) (sym c.files-files.ensures) in
    let copies = ap (λ (l : Stock). l.copies) (sym c.copies-archive.ensures) in
    let off : c.in_ok-files_compare.field-0 ≡ false = search rules in
    let at : areas.Files ≡ area = cc in
    subst (λ (a : Area). IsUnlike f a) at (unlike-files f c.requires.links (refuted c.in_ok-files_compare.field-0 (c.in_ok-files_compare.ensures f refl branches files copies c.requires.links) off))

pub returns-then-not-branch-2-clause-unlike : goal.returns-then-not-branch-2-clause-unlike
returns-then-not-branch-2-clause-unlike c area is =
    let f = folds_in c.args.owners.now in
    let branches = ap (λ (l : Linked). l.links) (sym c.branches-branches.ensures) in
    let files = ap (λ (l : Catalog). l.files) (sym c.files-files.ensures) in
    let copies = ap (λ (l : Stock). l.copies) (sym c.copies-archive.ensures) in
    let on_files : c.in_ok-files_compare.field-0 ≡ true = search rules in
    let off : c.in_ok-archive_compares.field-0 ≡ false = search rules in
    let have = (c.in_ok-files_compare.ensures f refl branches files copies c.requires.links).0 on_files in
    let at : areas.Archive ≡ area = cc in
    subst (λ (a : Area). IsUnlike f a) at (unlike-archive f c.requires.links have (refuted c.in_ok-archive_compares.field-0 (c.in_ok-archive_compares.ensures f refl branches files copies c.requires.every c.requires.links) off))

pub returns-then-not-branch-3-clause-unlike : goal.returns-then-not-branch-3-clause-unlike
returns-then-not-branch-3-clause-unlike c area is =
    let f = folds_in c.args.owners.now in
    let branches = ap (λ (l : Linked). l.links) (sym c.branches-branches.ensures) in
    let files = ap (λ (l : Catalog). l.files) (sym c.files-files.ensures) in
    let copies = ap (λ (l : Stock). l.copies) (sym c.copies-archive.ensures) in
    let on_files : c.in_ok-files_compare.field-0 ≡ true = search rules in
    let on_archive : c.in_ok-archive_compares.field-0 ≡ true = search rules in
    let off : c.in_ok-backups_compare.field-0 ≡ false = search rules in
    let have = (c.in_ok-files_compare.ensures f refl branches files copies c.requires.links).0 on_files in
    let archived = (c.in_ok-archive_compares.ensures f refl branches files copies c.requires.every c.requires.links).0 on_archive in
    let at : areas.Backups ≡ area = cc in
    subst (λ (a : Area). IsUnlike f a) at (unlike-backups f c.requires.links have archived (refuted c.in_ok-backups_compare.field-0 (c.in_ok-backups_compare.ensures f refl refl) off))

pub returns-clause-fits : goal.returns-clause-fits
returns-clause-fits c is =
    let f = folds_in c.args.owners.now in
    let branches = ap (λ (l : Linked). l.links) (sym c.branches-branches.ensures) in
    let files = ap (λ (l : Catalog). l.files) (sym c.files-files.ensures) in
    let copies = ap (λ (l : Stock). l.copies) (sym c.copies-archive.ensures) in
    let on_files : c.in_ok-files_compare.field-0 ≡ true = search rules in
    let on_archive : c.in_ok-archive_compares.field-0 ≡ true = search rules in
    let on_backups : c.in_ok-backups_compare.field-0 ≡ true = search rules in
    let have = (c.in_ok-files_compare.ensures f refl branches files copies c.requires.links).0 on_files in
    let archived = (c.in_ok-archive_compares.ensures f refl branches files copies c.requires.every c.requires.links).0 on_archive in
    let saved = (c.in_ok-backups_compare.ensures f refl refl).0 on_backups in
    c.areas_stand_where_all_compares.ensures.stands f (all-compare f c.requires.links have archived saved)
