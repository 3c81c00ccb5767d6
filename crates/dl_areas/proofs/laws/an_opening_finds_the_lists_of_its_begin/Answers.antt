use Rattle.dl_areas.proofs.Opens.{opening-mixed}
use Rattle.dl_areas.proofs.laws.an_opening_finds_the_lists_of_its_begin.Goals as goal

pub returns : goal.returns
returns g c o p = opening-mixed (g.B.Bench.outside o) (g.met.B.Bench.lawful o) p
