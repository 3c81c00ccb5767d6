use Rattle.std.proofs.Common.{sym, subst, ap, arith}
use Rattle.dl_base.specs.declared.area.Area.{Area}
use Rattle.dl_base.specs.Outside.{ChangesOnly}
use Rattle.dl_base.proofs.Moments.{touches_then}
use Rattle.dl_journal.specs.Extent.{Extent}
use Rattle.dl_journal.specs.Open.{Keeps, AddsOne}
use Rattle.dl_journal.proofs.Records.{size-push}
use Rattle.dl_journal.proofs.Steps.{staged_adds, opened_adds}
use Rattle.dl_journal.proofs.journal.Journal.append.Goals as goal

pub returns-in_err-stage-clause-images : goal.returns-in_err-stage-clause-images
returns-in_err-stage-clause-images g c =
    let o = g.B.Bench.outside c.args.bench.now in
    let n = g.B.Bench.outside c.stage.new.bench in
    subst (λ (a : Area). ChangesOnly a (AddsOne c.args.self.now c.args.body.now o) o n) (ap (λ (j : Extent). j.area) c.self.view_is)
    (staged_adds c.self.inside.area c.self.inside.place c.args.self.now c.args.body.now o n (ap (λ (j : Extent). j.area) c.self.view_is) (ap (λ (j : Extent). j.length) c.self.view_is) c.stage.ensures.images)

pub returns-in_err-open_gate-clause-images : goal.returns-in_err-open_gate-clause-images
returns-in_err-open_gate-clause-images g c =
    let o = g.B.Bench.outside c.args.bench.now in
    let m = g.B.Bench.outside c.stage.new.bench in
    let n = g.B.Bench.outside c.open_gate.new.bench in
    let at = ap (λ (j : Extent). j.area) c.self.view_is in
    let long = ap (λ (j : Extent). j.length) c.self.view_is in
    subst (λ (a : Area). ChangesOnly a (AddsOne c.args.self.now c.args.body.now o) o n) at
    (touches_then c.self.inside.area _ o m n
    (staged_adds c.self.inside.area c.self.inside.place c.args.self.now c.args.body.now o m at long c.stage.ensures.images)
    (opened_adds c.self.inside.area c.self.inside.place c.args.self.now c.args.body.now o m n at long c.in_ok-stage.ensures.staged c.open_gate.ensures.images))

pub returns-clause-images : goal.returns-clause-images
returns-clause-images g c =
    let o = g.B.Bench.outside c.args.bench.now in
    let m = g.B.Bench.outside c.stage.new.bench in
    let n = g.B.Bench.outside c.open_gate.new.bench in
    let at = ap (λ (j : Extent). j.area) c.self.view_is in
    let long = ap (λ (j : Extent). j.length) c.self.view_is in
    subst (λ (a : Area). ChangesOnly a (AddsOne c.args.self.now c.args.body.now o) o n) at
    (touches_then c.self.inside.area _ o m n
    (staged_adds c.self.inside.area c.self.inside.place c.args.self.now c.args.body.now o m at long c.stage.ensures.images)
    (opened_adds c.self.inside.area c.self.inside.place c.args.self.now c.args.body.now o m n at long c.in_ok-stage.ensures.staged c.open_gate.ensures.images))

pub returns-clause-acknowledged : goal.returns-clause-acknowledged
returns-clause-acknowledged g c = λ bodies keeps.
    let k = subst (λ (j : Extent). Keeps j bodies (g.B.Bench.outside c.args.bench.now)) (sym c.self.view_is) keeps in
    record {
      fits = omega (arith, k.length, size-push bodies c.args.body.now);
      length = omega (arith, k.length, size-push bodies c.args.body.now);
      images = c.in_ok-open_gate.ensures.added bodies c.args.body.now (omega (arith, k.length)) (c.in_ok-stage.ensures.staged bodies (omega (arith, k.length)) k.images);
    }

pub returns-clause-open : goal.returns-clause-open
returns-clause-open g c = λ s is. omega (arith, c.in_ok-open_gate.ensures.reaches _ c.in_ok-stage.ensures.reaches s is)
