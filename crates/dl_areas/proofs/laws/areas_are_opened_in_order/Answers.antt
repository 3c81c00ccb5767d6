use Rattle.dl_areas.proofs.Opens.{opens-none, opens-more, opens-most, opens-1, opens-2, opens-3, opens-4, opens-5}
use Rattle.dl_areas.proofs.laws.areas_are_opened_in_order.Goals as goal

pub returns-clause-none : goal.returns-clause-none
returns-clause-none g c o = opens-none (g.B.Bench.outside o)

pub returns-clause-more : goal.returns-clause-more
returns-clause-more g c k a o m n = let O = g.B.Bench.outside in opens-more k a (O o) (O m) (O n)

pub returns-clause-at_most : goal.returns-clause-at_most
returns-clause-at_most g c k l o n = let O = g.B.Bench.outside in opens-most k l (O o) (O n)

pub returns-clause-one : goal.returns-clause-one
returns-clause-one g c o m1 = let O = g.B.Bench.outside in opens-1 (O o) (O m1)

pub returns-clause-two : goal.returns-clause-two
returns-clause-two g c o m1 m2 = let O = g.B.Bench.outside in opens-2 (O o) (O m1) (O m2)

pub returns-clause-three : goal.returns-clause-three
returns-clause-three g c o m1 m2 m3 = let O = g.B.Bench.outside in opens-3 (O o) (O m1) (O m2) (O m3)

pub returns-clause-four : goal.returns-clause-four
returns-clause-four g c o m1 m2 m3 m4 = let O = g.B.Bench.outside in opens-4 (O o) (O m1) (O m2) (O m3) (O m4)

pub returns-clause-five : goal.returns-clause-five
returns-clause-five g c o m1 m2 m3 m4 m5 = let O = g.B.Bench.outside in opens-5 (O o) (O m1) (O m2) (O m3) (O m4) (O m5)
