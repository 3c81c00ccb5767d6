use Rattle.std.proofs.Common.{ap, subst}
use Rattle.meaning_areas.specs.Stands.{Stored, stored_of}
use Rattle.meaning_history.specs.Reached.{first_of}
use Rattle.meaning_history.specs.Sound.{AreSound}
use Rattle.meaning_system.specs.Machine.{start}
use Rattle.meaning_system.specs.State.{stored}
use Rattle.sys_owners.specs.Owned.{folds_in}
use Rattle.sys_recovery.specs.Left.{areas_of}
use Rattle.sys_reopening.proofs.Finding.{found-stand, reads-told, stand-found}
use Rattle.sys_reopening.proofs.laws.the_next_run_begins_there.Goals as goal

pub returns-clause-finds : goal.returns-clause-finds
returns-clause-finds g c p s o stand reads =
    let O = g.B.Bench.outside in
    stand-found (areas_of p) s (O o) stand (reads-told p (O o) reads)

pub returns-clause-same : goal.returns-clause-same
returns-clause-same g c p s o lists f stand reads found =
    let O = g.B.Bench.outside in
    c.areas_stand_where_all_compares.ensures.one (areas_of p) (stored_of f) s (found-stand lists f (O o) found (areas_of p) (reads-told p (O o) reads)) stand

pub returns-clause-begins : goal.returns-clause-begins
returns-clause-begins g c p s o lists f recovers reads found given =
    let O = g.B.Bench.outside in
    ap (start given) (c.areas_stand_where_all_compares.ensures.one (areas_of p) (stored_of f) (stored s) (found-stand lists f (O o) found (areas_of p) (reads-told p (O o) reads)) recovers)

pub returns-clause-begun : goal.returns-clause-begun
returns-clause-begun g c p s o n limit lists f w recovers reads begun given =
    let O = g.B.Bench.outside in
    let told = reads-told p (O o) reads in
    subst (λ (x : Stored). AreSound (first_of x) (folds_in w) (start given x))
    (c.areas_stand_where_all_compares.ensures.one (areas_of p) (stored_of f) (stored s) (found-stand lists f (O o) (begun.found (areas_of p) told) (areas_of p) told) recovers)
    (begun.sound given)
