use Rattle.std.proofs.Common.{◌+◌, [], ◌∷◌, drop, refl, ap, arith, List, ℕ, None, Some, Result}
use Rattle.std.specs.Result.{result_err}
use Rattle.dl_base.specs.declared.fault.AppendFault.{AppendFault}
use Rattle.dl_areas.specs.Batch.{writes_in}
use Rattle.dl_areas.specs.Lists.{write_of}
use Rattle.dl_areas.proofs.Appending.{alone-as}
use Rattle.dl_areas.proofs.Batching.{alone-first, alone-more, alone-end, alone-fault, left-next, left-end}
use Rattle.dl_areas.proofs.batch.append_all.Goals as goal

pub append-requires : goal.append-requires
append-requires g c = c.loop-body.invariant.gate

pub loop-body-init : goal.loop-body-init
loop-body-init g c = alone-first c.args.journal.now (writes_in c.args.journal.now.area c.as_slice-body-items.result.now) (g.B.Bench.outside c.args.bench.now) c.requires

pub loop-body-preserved : goal.loop-body-preserved
loop-body-preserved g c =
    let O = g.B.Bench.outside in
    let items = c.as_slice-body-items.result.now in
    let i = c.loop-body.body-index in
    let area = c.args.journal.now.area in
    let k = c.loop-body.journal in
    let l = c.append.new.journal in
    let ws = write_of k.area c.bytes.result.now None ∷ [] in
    alone-more c.args.journal.now k (writes_in area items) (writes_in area (drop i items)) (O c.args.bench.now) (O c.loop-body.bench) c.loop-body.invariant
    l ws (writes_in area (drop (i + 1) items)) (O c.append.new.bench)
    (left-next area k.area items i c.body-item.result c.bytes.result.now c.loop-body-test.true c.body-item.is c.bytes.ensures c.loop-body.invariant.area)
    (alone-as k l ws ws (result_err c.append.result) None (O c.loop-body.bench) (O c.append.new.bench) refl (ap (λ (r : Result Unit AppendFault). result_err r) c.in-Ok.is) c.append.ensures)

pub returns-in-Err : goal.returns-in-Err
returns-in-Err g c =
    let O = g.B.Bench.outside in
    let items = c.as_slice-body-items.result.now in
    let i = c.loop-body.body-index in
    let j = c.args.journal.now in
    let k = c.loop-body.journal in
    let l = c.append.new.journal in
    let ws = write_of k.area c.bytes.result.now None ∷ [] in
    alone-as j l (writes_in j.area items) (writes_in j.area c.args.bodies.now) (Some c.in-Err.fault) (Some c.in-Err.fault) (O c.args.bench.now) (O c.append.new.bench)
    (ap (λ (xs : List (List ℕ)). writes_in j.area xs) c.as_slice-body-items.ensures) refl
    (alone-fault j k (writes_in j.area items) (writes_in j.area (drop i items)) (O c.args.bench.now) (O c.loop-body.bench) c.loop-body.invariant
    l ws (writes_in j.area (drop (i + 1) items)) c.in-Err.fault (O c.append.new.bench)
    (left-next j.area k.area items i c.body-item.result c.bytes.result.now c.loop-body-test.true c.body-item.is c.bytes.ensures c.loop-body.invariant.area)
    (alone-as k l ws ws (result_err c.append.result) (Some c.in-Err.fault) (O c.loop-body.bench) (O c.append.new.bench) refl (ap (λ (r : Result Unit AppendFault). result_err r) c.in-Err.is) c.append.ensures))

pub returns : goal.returns
returns g c =
    let O = g.B.Bench.outside in
    let items = c.as_slice-body-items.result.now in
    let i = c.loop-body.body-index in
    let j = c.args.journal.now in
    let k = c.loop-body.journal in
    alone-as j k (writes_in j.area items) (writes_in j.area c.args.bodies.now) None None (O c.args.bench.now) (O c.loop-body.bench)
    (ap (λ (xs : List (List ℕ)). writes_in j.area xs) c.as_slice-body-items.ensures) refl
    (alone-end j k (writes_in j.area items) (writes_in j.area (drop i items)) (O c.args.bench.now) (O c.loop-body.bench) c.loop-body.invariant (left-end j.area items i (omega (arith, c.loop-body-test.false))))
