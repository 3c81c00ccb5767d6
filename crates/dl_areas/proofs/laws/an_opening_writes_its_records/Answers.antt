use Rattle.dl_areas.proofs.Begins.{begin-images, begin-begun, begin-full}
use Rattle.dl_areas.proofs.laws.an_opening_writes_its_records.Goals as goal

pub returns-clause-images : goal.returns-clause-images
returns-clause-images g c limit js ks lists read ws fault o m n all does is = let O = g.B.Bench.outside in begin-images limit js ks lists ws (O o) (O m) (O n) all read is fault does

pub returns-clause-begun : goal.returns-clause-begun
returns-clause-begun g c limit js ks lists ws o m n = let O = g.B.Bench.outside in begin-begun limit js ks lists ws (O o) (O m) (O n)

pub returns-clause-full : goal.returns-clause-full
returns-clause-full g c limit js ks lists read ws f o m n all does is = let O = g.B.Bench.outside in begin-full limit js ks lists ws (O o) (O m) (O n) all read is f does
