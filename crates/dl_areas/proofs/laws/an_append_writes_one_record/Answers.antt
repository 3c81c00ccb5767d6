use Rattle.std.proofs.Common.{ap}
use Rattle.dl_areas.proofs.Appending.{alone-one, alone-exhausted, alone-none, alone-then, alone-stop}
use Rattle.dl_areas.proofs.laws.an_append_writes_one_record.Goals as goal

pub returns-clause-one : goal.returns-clause-one
returns-clause-one g c j k body result o n more adds gate grew kept full room unwritten device clean =
    let O = g.B.Bench.outside in
    alone-one j k body result (O o) (O n) more adds gate grew kept full room (λ lt. ap O (unwritten lt)) device clean

pub returns-clause-exhausted : goal.returns-clause-exhausted
returns-clause-exhausted g c j w f o = alone-exhausted j w f (g.B.Bench.outside o)

pub returns-clause-none : goal.returns-clause-none
returns-clause-none g c j o = alone-none j (g.B.Bench.outside o)

pub returns-clause-then : goal.returns-clause-then
returns-clause-then g c j k l ws vs fault o m n = let O = g.B.Bench.outside in alone-then j k l ws vs fault (O o) (O m) (O n)

pub returns-clause-stop : goal.returns-clause-stop
returns-clause-stop g c j k ws vs fault o n = let O = g.B.Bench.outside in alone-stop j k ws vs fault (O o) (O n)
