use Rattle.std.proofs.Common.{◌≡◌, length, Err, refl, ap, subst, sym, ◌∙◌, arith}
use Rattle.dl_areas.specs.Opening.{IsInOpening}
use Rattle.dl_base.proofs.Moments.{moments_none}
use Rattle.datalinks.proofs.Complete.{run-done, script-done}
use Rattle.datalinks.proofs.Opened.{begins-read}
use Rattle.datalinks.specs.Complete.{IsDone}
use Rattle.datalinks.specs.Run.{IsInside}
use Rattle.datalinks.specs.declared.script.ScriptFault.{ScriptFault}
use Rattle.datalinks.proofs.command.command.Goals as goal

pub returns-in-Ok-clause-whole : goal.returns-in-Ok-clause-whole
returns-in-Ok-clause-whole g c is run begins =
    let read : c.deref.result.now ≡ run.script = c.deref.ensures.value ∙ c.in-Ok.ensures.whole.all run.script begins.source_has in (
      c.run.ensures.whole is run (begins-read c.args.given (g.S.Source.rest c.args.source.now) c.deref.result.now (g.B.Bench.outside c.args.bench) run begins read),
      c.in-Ok.ensures.whole.ended run.script begins.source_has,
      omega (arith, c.in-Ok.ensures.short, ap length (c.in-Ok.ensures.whole.all run.script begins.source_has)),
    )

pub returns-in-Ok-clause-history : goal.returns-in-Ok-clause-history
returns-in-Ok-clause-history g c run begins =
    let read : c.deref.result.now ≡ run.script = c.deref.ensures.value ∙ c.in-Ok.ensures.whole.all run.script begins.source_has in
    c.run.ensures.history run (begins-read c.args.given (g.S.Source.rest c.args.source.now) c.deref.result.now (g.B.Bench.outside c.args.bench) run begins read)

pub returns-in-Ok-clause-full : goal.returns-in-Ok-clause-full
returns-in-Ok-clause-full g c full is run begins =
    let read : c.deref.result.now ≡ run.script = c.deref.ensures.value ∙ c.in-Ok.ensures.whole.all run.script begins.source_has in
    c.run.ensures.full full is run (begins-read c.args.given (g.S.Source.rest c.args.source.now) c.deref.result.now (g.B.Bench.outside c.args.bench) run begins read)

pub returns-in-Ok-clause-complete : goal.returns-in-Ok-clause-complete
returns-in-Ok-clause-complete g c run begins short room calm =
    let read : c.deref.result.now ≡ run.script = c.deref.ensures.value ∙ c.in-Ok.ensures.whole.all run.script begins.source_has in
    run-done c.run.result.0 run (g.B.Bench.outside c.args.bench) (g.B.Bench.outside c.run.result.1) begins.areas_have c.run.ensures.end c.run.ensures.device c.run.ensures.not_a_store
    (λ full is. c.run.ensures.full full is run (begins-read c.args.given (g.S.Source.rest c.args.source.now) c.deref.result.now (g.B.Bench.outside c.args.bench) run begins read)) room

pub returns-in-Err-clause-history : goal.returns-in-Err-clause-history
returns-in-Err-clause-history g c run begins = moments_none (IsInside run (g.B.Bench.outside c.args.bench)) (g.B.Bench.outside c.args.bench)

pub returns-in-Err-clause-unopened : goal.returns-in-Err-clause-unopened
returns-in-Err-clause-unopened g c x told nothing = (moments_none (IsInOpening (g.B.Bench.outside c.args.bench)) (g.B.Bench.outside c.args.bench), refl)

pub returns-in-Err-clause-complete : goal.returns-in-Err-clause-complete
returns-in-Err-clause-complete g c run begins short room calm =
    subst IsDone (sym c.script_end.ensures) (script-done c.in-Err.fault run.script (g.S.Source.rest c.args.source.now) (g.S.Source.rest c.read_script.new.source) (g.S.Source.faults c.args.source.now) (g.S.Source.faults c.read_script.new.source)
    begins.source_has short calm (λ is. c.in-Err.ensures.cause (ap (λ (e : ScriptFault). Err e) is)) (λ n is. c.in-Err.ensures.too_long n (ap (λ (e : ScriptFault). Err e) is)))

pub returns-in-Ok-clause-clean : goal.returns-in-Ok-clause-clean
returns-in-Ok-clause-clean g c is = (c.run.ensures.clean is, c.in-Ok.ensures.clean)
