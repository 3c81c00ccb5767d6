use Rattle.std.proofs.Common.{◌≡◌, [], Option, Some, None, true, false, refl, subst, rules}
use Rattle.dl_base.specs.declared.value.LinkRow.{LinkRow}
use Rattle.meaning_settling.specs.Keyed.{Keyed}
use Rattle.compare_every.proofs.Deciding.{refuted}
use Rattle.compare_links.proofs.Fits.{alike, last-paths, unlike}
use Rattle.compare_links.proofs.Folded.{own-paths, rows-fit}
use Rattle.compare_links.specs.Fitting.{CommitFits, CommitsFit}
use Rattle.compare_links.proofs.compare.links_compare.Goals as goal

pub commits_fit-requires-clause-moved : goal.commits_fit-requires-clause-moved
commits_fit-requires-clause-moved c = (c.commits_have_what_they_moved.ensures c.requires.rows.0 c.args.store.now.rows c.requires.rows.1).1

pub commits_fit-requires-clause-fit : goal.commits_fit-requires-clause-fit
commits_fit-requires-clause-fit c = rows-fit c.requires.rows.0 c.args.store.now.rows c.requires.rows.1

pub returns-then-not-branch : goal.returns-then-not-branch
returns-then-not-branch c =
    let off : c.in_ok-branches_fit.field-0 ≡ false = search rules in
    unlike c.args.store.now.rows c.args.branches.now.links c.requires.rows (c.commits_have_what_they_moved.ensures c.requires.rows.0 c.args.store.now.rows c.requires.rows.1)
    (λ fits. refuted c.in_ok-branches_fit.field-0 c.in_ok-branches_fit.ensures off fits.branches)

pub returns-then-not-branch-2 : goal.returns-then-not-branch-2
returns-then-not-branch-2 c =
    let off : c.in_ok-branches_are_apart.field-0 ≡ false = search rules in
    unlike c.args.store.now.rows c.args.branches.now.links c.requires.rows (c.commits_have_what_they_moved.ensures c.requires.rows.0 c.args.store.now.rows c.requires.rows.1)
    (λ fits. refuted c.in_ok-branches_are_apart.field-0 c.in_ok-branches_are_apart.ensures off fits.apart)

pub held_fits-requires-clause-own : goal.held_fits-requires-clause-own
held_fits-requires-clause-own c = own-paths c.requires.links.0 c.args.branches.now.links c.requires.links.1

pub held_fits-requires-clause-paths : goal.held_fits-requires-clause-paths
held_fits-requires-clause-paths c =
    let fit : CommitsFit c.args.store.now.rows c.args.branches.now.links.table (Some c.in-Some.every) =
    subst (λ (o : Option (Keyed LinkRow)). CommitsFit c.args.store.now.rows c.args.branches.now.links.table o) c.in-Some.is c.in_ok-every.ensures in
    last-paths (CommitFits c.args.store.now.rows c.args.branches.now.links.table) (λ _ fits. fits.paths) [] c.args.store.now.rows.commits refl fit.0

pub returns-then-not-branch-3 : goal.returns-then-not-branch-3
returns-then-not-branch-3 c =
    let off : c.in_ok-held_fits-in-Some.field-0 ≡ false = search rules in
    unlike c.args.store.now.rows c.args.branches.now.links c.requires.rows (c.commits_have_what_they_moved.ensures c.requires.rows.0 c.args.store.now.rows c.requires.rows.1)
    (λ fits. refuted c.in_ok-held_fits-in-Some.field-0 c.in_ok-held_fits-in-Some.ensures off fits.held)

pub returns-else-not-branch-3 : goal.returns-else-not-branch-3
returns-else-not-branch-3 c =
    let on_branches : c.in_ok-branches_fit.field-0 ≡ true = search rules in
    let on_apart : c.in_ok-branches_are_apart.field-0 ≡ true = search rules in
    let on_held : c.in_ok-held_fits-in-Some.field-0 ≡ true = search rules in
    let fit : CommitsFit c.args.store.now.rows c.args.branches.now.links.table (Some c.in-Some.every) =
    subst (λ (o : Option (Keyed LinkRow)). CommitsFit c.args.store.now.rows c.args.branches.now.links.table o) c.in-Some.is c.in_ok-every.ensures in
    alike c.args.store.now.rows c.args.branches.now.links c.requires.rows (c.commits_have_what_they_moved.ensures c.requires.rows.0 c.args.store.now.rows c.requires.rows.1)
    (c.in_ok-branches_fit.ensures.0 on_branches) (c.in_ok-branches_are_apart.ensures.0 on_apart) c.in-Some.every fit (c.in_ok-held_fits-in-Some.ensures.0 on_held)

pub returns-in-None : goal.returns-in-None
returns-in-None c =
    let never : CommitsFit c.args.store.now.rows c.args.branches.now.links.table None =
    subst (λ (o : Option (Keyed LinkRow)). CommitsFit c.args.store.now.rows c.args.branches.now.links.table o) c.in-None.is c.in_ok-every.ensures in
    unlike c.args.store.now.rows c.args.branches.now.links c.requires.rows (c.commits_have_what_they_moved.ensures c.requires.rows.0 c.args.store.now.rows c.requires.rows.1)
    (λ fits. never fits.commits fits.rows)
