use Rattle.std.proofs.Common.{◌≡◌, ℕ, Bool, true, false, cond, Option, Some, None, refl, sym, ◌∙◌, ap}
use Rattle.std.specs.FinMap as maps
use Rattle.std.specs.FinMap.{get-entries}
use Rattle.std.specs.List.{flat_map}
use Rattle.meaning_areas.specs.Branches.{Branch}
use Rattle.meaning_areas.specs.Commits.{commit_of}
use Rattle.meaning_areas.specs.Lists.{Folds}
use Rattle.meaning_areas.specs.Stands.{IsStand, Stored, is_open, open_branch}
use Rattle.meaning_system.specs.Writes.{open_drop}
use Rattle.meaning_opening.proofs.Dropping.{AbortedStays, Dropped, drop-all, found-there}
use Rattle.meaning_opening.proofs.Entries.{entries-differ, entries-found}
use Rattle.meaning_opening.proofs.Shutting.{IsShut}
use Rattle.meaning_opening.proofs.Walks.{walk-fronts, walk-last, walk-taken}
use Rattle.meaning_opening.proofs.laws.branches_without_a_commit_are_aborted.Goals as goal

drops : AbortedStays → (f : Folds) (x : Stored) → IsStand f x → Dropped f f (flat_map (open_drop f) (maps.entries f.links.table)) (maps.entries f.links.table) x
drops aborted f x stand =
    drop-all aborted f x (maps.entries f.links.table) f stand refl (entries-differ f.links.table) (found-there f f (maps.entries f.links.table) (λ q none. refl) (entries-found f.links.table))

shut : (f : Folds) (x : Stored) (all : Dropped f f (flat_map (open_drop f) (maps.entries f.links.table)) (maps.entries f.links.table) x) (q : ℕ) → commit_of q f.rows.commits ≡ None → IsShut all.last q
shut f x all q free = by (maps.get f.links.table q) refl
  where
    by : (o : Option Branch) → maps.get f.links.table q ≡ o → IsShut all.last q
    by None at = all.shut q (ap open_branch at)
    by (Some b) at = on (is_open b.phase) refl
      where
        on : (t : Bool) → is_open b.phase ≡ t → IsShut all.last q
        on true still = all.gone q b (sym (get-entries f.links.table q) ∙ at) still free
        on false closed = all.shut q (ap open_branch at ∙ ap (λ t. cond t (Some b.moved) None) closed)

pub returns-clause-leads : goal.returns-clause-leads
returns-clause-leads c f x stand =
    let all = drops c.one_more_record_changes_nothing.ensures.aborted f x stand in
    (all.last, walk-taken (flat_map (open_drop f) (maps.entries f.links.table)) f all.last x all.walk, walk-last (flat_map (open_drop f) (maps.entries f.links.table)) f all.last x all.walk, all.rows, shut f x all)

pub returns-clause-fronts : goal.returns-clause-fronts
returns-clause-fronts c f x stand =
    let all = drops c.one_more_record_changes_nothing.ensures.aborted f x stand in
    walk-fronts (flat_map (open_drop f) (maps.entries f.links.table)) f all.last x all.walk
