use Rattle.dl_areas.proofs.Doing.{doing-first, doing-more, doing-end, doing-fault}
use Rattle.dl_areas.proofs.laws.a_loop_writes_its_records.Goals as goal

pub returns-clause-first : goal.returns-clause-first
returns-clause-first g c js all o = doing-first js all (g.B.Bench.outside o)

pub returns-clause-more : goal.returns-clause-more
returns-clause-more g c js ks ls all left ws later o m n d = let O = g.B.Bench.outside in doing-more js ks ls all left (O o) (O m) (O n) d ws later

pub returns-clause-end : goal.returns-clause-end
returns-clause-end g c js ks ls all left o m n d = let O = g.B.Bench.outside in doing-end js ks ls all left (O o) (O m) (O n) d

pub returns-clause-fault : goal.returns-clause-fault
returns-clause-fault g c js ks ls all left ws later fault o m n d = let O = g.B.Bench.outside in doing-fault js ks ls all left (O o) (O m) (O n) d ws later fault
