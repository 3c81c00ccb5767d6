use Rattle.std.proofs.Common.{[], ◌∷◌, ◌++◌, None}
use Rattle.dl_areas.specs.Batch.{writes_in}
use Rattle.dl_areas.specs.Lists.{write_of}
use Rattle.dl_areas.proofs.Batching.{no-memory}
use Rattle.dl_areas.proofs.batch.append_batch.Goals as goal

pub returns-in_default : goal.returns-in_default
returns-in_default g c js ready first second =
    let o = g.B.Bench.outside c.args.bench.now in
    let f = c.args.first.now in
    let s = c.args.second.now in
    no-memory f f s s c.requires.apart [] [] o o o js ready first second (writes_in f.area c.args.bodies.now ++ write_of s.area c.args.mark.now None ∷ [])
