use Rattle.std.proofs.Common.{◌≡◌, Ok, Option, Some, None, refl, sym, ◌∙◌, ap, subst}
use Rattle.compare_links.specs.Comparing.{ComparesTo}
use Rattle.dl_base.specs.declared.area.Area.{Area}
use Rattle.dl_base.specs.declared.area.Area.TheVariants as areas
use Rattle.dl_base.specs.declared.value.LinkRow.{LinkRow}
use Rattle.fm_branch.specs.Linked.{Linked}
use Rattle.meaning_areas.specs.Areas.{IsUnlike}
use Rattle.meaning_settling.specs.Keyed.{Keyed}
use Rattle.sys_opening.proofs.Comparing.{unlike-links}
use Rattle.sys_owners.specs.Owned.{folds_in}
use Rattle.sys_opening.proofs.compare.compare.Goals as goal

pub links_compare-requires-clause-rows : goal.links_compare-requires-clause-rows
links_compare-requires-clause-rows c = (c.requires.0 areas.Rows, c.requires.1.rows)

pub links_compare-requires-clause-links : goal.links_compare-requires-clause-links
links_compare-requires-clause-links c = (c.requires.0 areas.Links, c.requires.1.links ∙ ap (λ (l : Linked). Ok l.links) (sym c.branches.ensures))

pub compare_rest-requires-clause-links : goal.compare_rest-requires-clause-links
compare_rest-requires-clause-links c =
    let f = folds_in c.args.owners.now in
    let compares : ComparesTo f (Some c.in-Some.every) = subst (λ (o : Option (Keyed LinkRow)). ComparesTo f o) c.in-Some.is (c.in_ok-every.ensures f refl (ap (λ (l : Linked). l.links) (sym c.branches.ensures))) in
    compares.0

pub compare_rest-requires-clause-every : goal.compare_rest-requires-clause-every
compare_rest-requires-clause-every c =
    let f = folds_in c.args.owners.now in
    let compares : ComparesTo f (Some c.in-Some.every) = subst (λ (o : Option (Keyed LinkRow)). ComparesTo f o) c.in-Some.is (c.in_ok-every.ensures f refl (ap (λ (l : Linked). l.links) (sym c.branches.ensures))) in
    compares.1

pub returns-in-None-clause-unlike : goal.returns-in-None-clause-unlike
returns-in-None-clause-unlike c area is =
    let f = folds_in c.args.owners.now in
    let never : ComparesTo f None = subst (λ (o : Option (Keyed LinkRow)). ComparesTo f o) c.in-None.is (c.in_ok-every.ensures f refl (ap (λ (l : Linked). l.links) (sym c.branches.ensures))) in
    let at : areas.Links ≡ area = cc in
    subst (λ (a : Area). IsUnlike f a) at (unlike-links f never)
