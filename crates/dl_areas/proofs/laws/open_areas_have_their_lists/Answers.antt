use Rattle.dl_areas.proofs.Opens.{opened-none, opened-more, opened-5, opened-ready, opened-kept, opened-journals, opened-lists}
use Rattle.dl_areas.proofs.laws.open_areas_have_their_lists.Goals as goal

pub returns-clause-none : goal.returns-clause-none
returns-clause-none g c limit js lists o = opened-none limit js lists (g.B.Bench.outside o)

pub returns-clause-more : goal.returns-clause-more
returns-clause-more g c a limit js lists o m n = let O = g.B.Bench.outside in opened-more a limit js lists (O o) (O m) (O n)

pub returns-clause-five : goal.returns-clause-five
returns-clause-five g c limit js lists o m1 m2 m3 m4 m5 = let O = g.B.Bench.outside in opened-5 limit js lists (O o) (O m1) (O m2) (O m3) (O m4) (O m5)

pub returns-clause-ready : goal.returns-clause-ready
returns-clause-ready g c limit js lists o n = let O = g.B.Bench.outside in opened-ready limit js lists (O o) (O n)

pub returns-clause-kept : goal.returns-clause-kept
returns-clause-kept g c limit js lists o n = let O = g.B.Bench.outside in opened-kept limit js lists (O o) (O n)

pub returns-clause-journals : goal.returns-clause-journals
returns-clause-journals g c limit js lists o n = let O = g.B.Bench.outside in opened-journals limit js lists (O o) (O n)

pub returns-clause-lists : goal.returns-clause-lists
returns-clause-lists g c limit js lists read o n all = let O = g.B.Bench.outside in opened-lists limit js lists (O o) (O n) all read
