use Rattle.std.proofs.Common.{[], ◌∷◌, refl, sym, ◌∙◌, ap, None, Some, Result}
use Rattle.std.specs.Result.{result_err}
use Rattle.dl_base.specs.declared.fault.AppendFault.{AppendFault}
use Rattle.dl_areas.specs.Batch.{writes_in}
use Rattle.dl_areas.specs.Lists.{write_of}
use Rattle.dl_areas.proofs.Appending.{alone-as}
use Rattle.dl_areas.proofs.Batching.{two-journals, first-fault}
use Rattle.dl_areas.proofs.batch.write_batch.Goals as goal

pub append-requires : goal.append-requires
append-requires g c = λ told is. c.requires.second told (sym (c.append_all.ensures.others c.args.second.now.area c.requires.apart) ∙ is)

pub returns-in-Ok : goal.returns-in-Ok
returns-in-Ok g c js ready first second =
    let O = g.B.Bench.outside in
    let f1 = c.args.first.now in
    let f2 = c.append_all.new.journal in
    let s1 = c.args.second.now in
    let ws = writes_in f1.area c.args.bodies.now in
    two-journals f1 f2 s1 c.append.new.journal c.requires.apart ws (write_of s1.area c.args.mark.now None ∷ []) (O c.args.bench.now) (O c.append_all.new.bench) (O c.append.new.bench) js ready first second
    (result_err c.append.result)
    (alone-as f1 f2 ws ws (result_err c.append_all.result) None (O c.args.bench.now) (O c.append_all.new.bench) refl (ap (λ (r : Result Unit AppendFault). result_err r) c.in-Ok.is) c.append_all.ensures)
    c.append.ensures

pub returns-in-Err : goal.returns-in-Err
returns-in-Err g c js ready first second =
    let O = g.B.Bench.outside in
    let f1 = c.args.first.now in
    let f2 = c.append_all.new.journal in
    let s1 = c.args.second.now in
    let ws = writes_in f1.area c.args.bodies.now in
    first-fault f1 f2 s1 s1 c.requires.apart ws (write_of s1.area c.args.mark.now None ∷ []) (O c.args.bench.now) (O c.append_all.new.bench) (O c.append_all.new.bench) js ready first second
    c.in-Err.fault
    (alone-as f1 f2 ws ws (result_err c.append_all.result) (Some c.in-Err.fault) (O c.args.bench.now) (O c.append_all.new.bench) refl (ap (λ (r : Result Unit AppendFault). result_err r) c.in-Err.is) c.append_all.ensures)
