use Rattle.std.proofs.Common.{⊎_elim, refl}
use Rattle.dl_areas.specs.Opening.{IsInOpening}
use Rattle.dl_base.proofs.Moments.{moments_none}
use Rattle.meaning_run.specs.Running.{after}
use Rattle.meaning_system.specs.State.{stored}
use Rattle.meaning_system.specs.Writes.{opening}
use Rattle.sys_opening.specs.Begun.{IsOfOpening}
use Rattle.sys_run.specs.Running.{IsInRun, resting}
use Rattle.datalinks.proofs.Opened.{begins-with}
use Rattle.datalinks.proofs.Standing.{inside-stands, untouched-stands}
use Rattle.datalinks.specs.Run.{OpeningFits, journals_behind, lists_behind, run_of}
use Rattle.datalinks.proofs.command.single.Goals as goal

pub returns-in-Ok-clause-whole : goal.returns-in-Ok-clause-whole
returns-in-Ok-clause-whole g c is run begins =
    c.command.ensures.whole is run (begins-with c.args.words.now c.in-Ok.given (g.S.Source.rest c.args.source.now) (g.B.Bench.outside c.args.bench) run begins c.in-Ok.ensures.exact)

pub returns-in-Ok-clause-history : goal.returns-in-Ok-clause-history
returns-in-Ok-clause-history g c run begins =
    c.command.ensures.history run (begins-with c.args.words.now c.in-Ok.given (g.S.Source.rest c.args.source.now) (g.B.Bench.outside c.args.bench) run begins c.in-Ok.ensures.exact)

pub returns-in-Ok-clause-recovers : goal.returns-in-Ok-clause-recovers
returns-in-Ok-clause-recovers g c run begins every =
    let o = g.B.Bench.outside c.args.bench in
    inside-stands run o (g.B.Bench.outside c.command.result.1) (g.met.B.Bench.lawful c.args.bench)
    (c.command.ensures.history run (begins-with c.args.words.now c.in-Ok.given (g.S.Source.rest c.args.source.now) o run begins c.in-Ok.ensures.exact)) every
    (λ p inside. ⊎_elim
    (λ (before : IsOfOpening run.lists (opening run.folds) o p). c.a_stopped_opening_stands.ensures run.lists run.folds c.args.bench p begins.areas_have every before)
    (λ (at : OpeningFits run × IsInRun (journals_behind run) (lists_behind run) (run_of run) o.told p). (stored (resting (after at.1.count (run_of run)) at.1.front), at.1.recovers))
    inside)

pub returns-in-Ok-clause-full : goal.returns-in-Ok-clause-full
returns-in-Ok-clause-full g c full is run begins =
    c.command.ensures.full full is run (begins-with c.args.words.now c.in-Ok.given (g.S.Source.rest c.args.source.now) (g.B.Bench.outside c.args.bench) run begins c.in-Ok.ensures.exact)

pub returns-in-Ok-clause-complete : goal.returns-in-Ok-clause-complete
returns-in-Ok-clause-complete g c run begins =
    c.command.ensures.complete run (begins-with c.args.words.now c.in-Ok.given (g.S.Source.rest c.args.source.now) (g.B.Bench.outside c.args.bench) run begins c.in-Ok.ensures.exact)

pub returns-in-Err-Memory-clause-recovers : goal.returns-in-Err-Memory-clause-recovers
returns-in-Err-Memory-clause-recovers g c run begins every p left = untouched-stands (g.B.Bench.outside c.args.bench) (g.met.B.Bench.lawful c.args.bench) every p left

-- where nothing was touched

pub returns-in-Err-Usage-clause-unopened : goal.returns-in-Err-Usage-clause-unopened
returns-in-Err-Usage-clause-unopened g c x told nothing = (moments_none (IsInOpening (g.B.Bench.outside c.args.bench)) (g.B.Bench.outside c.args.bench), refl)

pub returns-in-Err-Memory-clause-unopened : goal.returns-in-Err-Memory-clause-unopened
returns-in-Err-Memory-clause-unopened g c x told nothing = (moments_none (IsInOpening (g.B.Bench.outside c.args.bench)) (g.B.Bench.outside c.args.bench), refl)
