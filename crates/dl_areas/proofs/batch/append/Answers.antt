use Rattle.std.proofs.Common.{[], ◌∷◌, None, Option, ap, refl, sym}
use Rattle.std.specs.Result.{result_err}
use Rattle.dl_base.specs.declared.fault.Full.{Full}
use Rattle.dl_areas.specs.Lists.{write_of}
use Rattle.dl_areas.proofs.Appending.{alone-as}
use Rattle.dl_areas.proofs.batch.append.Goals as goal

pub returns-in-Some : goal.returns-in-Some
returns-in-Some g c = c.an_append_writes_one_record.ensures.exhausted c.args.journal.now (write_of c.args.journal.now.area c.args.body.now c.args.exhausted) c.in-Some.full c.args.bench.now c.in-Some.is

pub returns : goal.returns
returns g c =
    let O = g.B.Bench.outside in
    let j = c.args.journal.now in
    let body = c.args.body.now in
    let e = c.append.ensures in
    alone-as j c.append.new.self (write_of j.area body None ∷ []) (write_of j.area body c.args.exhausted ∷ []) (result_err c.append.result) (result_err c.append.result) (O c.args.bench.now) (O c.append.new.bench)
    (ap (λ (x : Option Full). write_of j.area body x ∷ []) (sym c.in_default.is)) refl
    (c.an_append_writes_one_record.ensures.one j c.append.new.self body c.append.result c.args.bench.now c.append.new.bench e.acknowledged e.images e.open e.length e.err e.full e.room e.unwritten e.device e.clean)
