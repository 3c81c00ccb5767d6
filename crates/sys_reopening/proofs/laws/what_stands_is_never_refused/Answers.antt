use Rattle.meaning_areas.specs.Areas.{bytes_of}
use Rattle.meaning_areas.specs.Stands.{stored_of}
use Rattle.sys_recovery.specs.Left.{areas_by}
use Rattle.sys_reopening.proofs.Finding.{found-are-told, found-stand, found_bytes, told-by}
use Rattle.sys_reopening.proofs.laws.what_stands_is_never_refused.Goals as goal

pub returns-clause-stand : goal.returns-clause-stand
returns-clause-stand g c x s o area place stand told nothing = c.areas_stand_where_all_compares.ensures.nothing x s (area, place) stand (nothing x told)

pub returns-clause-images : goal.returns-clause-images
returns-clause-images g c x o area place every told nothing =
    let O = g.B.Bench.outside in
    let y = every (bytes_of x) (λ a. (g.met.B.Bench.lawful o).as_it_reads a (bytes_of x a) (told a)) in
    c.areas_stand_where_all_compares.ensures.nothing (areas_by (bytes_of x)) y.0 (area, place) y.1 (nothing (areas_by (bytes_of x)) (told-by x (O o) told))

pub returns-clause-found : goal.returns-clause-found
returns-clause-found g c lists f o area place found nothing =
    let O = g.B.Bench.outside in
    let x = areas_by (found_bytes lists f (O o) found) in
    let told = found-are-told lists f (O o) found in
    c.areas_stand_where_all_compares.ensures.nothing x (stored_of f) (area, place) (found-stand lists f (O o) found x told) (nothing x told)
