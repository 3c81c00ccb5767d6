use Rattle.std.proofs.Common.{◌≡◌, inl, Some, Err, ap, sym, subst, ◌∙◌, arith}
use Rattle.std.specs.Str.Lines.{lines}
use Rattle.dl_areas.specs.Lists.{HasLists, puts}
use Rattle.dl_areas.specs.Opening.{journals_with}
use Rattle.dl_areas.specs.Writing.{fitting, full_in}
use Rattle.dl_base.specs.declared.fault.StepFault.{StepFault}
use Rattle.dl_base.specs.declared.step.Settings.{Settings}
use Rattle.fm_manager.specs.Managed.{as_writes}
use Rattle.meaning_areas.specs.Stands.{stored_of}
use Rattle.meaning_history.specs.Reached.{first_of}
use Rattle.meaning_run.specs.Running.{first_run}
use Rattle.meaning_system.specs.Machine.{start}
use Rattle.meaning_system.specs.Writes.{opening}
use Rattle.sys_opening.specs.declared.fault.OpenFault.{OpenFault}
use Rattle.sys_run.proofs.Images.{Laws}
use Rattle.sys_run.proofs.Reached.{rose-later}
use Rattle.datalinks.proofs.Opened.{IsOpen, at-script, new-sessions, ready-of, stands-begun}
use Rattle.datalinks.proofs.Standing.{found-stands}
use Rattle.datalinks.proofs.Whole.{Parts, full-then, inside-opening, inside-then, opening-device, opening-full, opening-no-store, opening-opened, step-device, step-ends, step-full, step-never-done, step-no-store, whole-run}
use Rattle.datalinks.specs.Codes.{IsRunEnd}
use Rattle.datalinks.specs.Complete.{WasOpened}
use Rattle.datalinks.specs.Run.{run_of}
use Rattle.datalinks.proofs.command.run.Goals as goal

pub run_lines-requires : goal.run_lines-requires
run_lines-requires g c =
    let O = g.B.Bench.outside in
    let begun = c.in-Ok.ensures.begun in
    let lists = begun.0 in
    let f = begun.1 in
    let given = c.args.given in
    let x = stored_of f in
    let w = c.in-Ok.engine in
    let v = c.new-sessions.result in
    let opened : IsOpen given lists f w (O c.args.bench) (O c.open.new.bench) = record { begun = begun.2; is = begun.3 } in
    let laws : Laws = record { folded = c.what_is_written_is_read.ensures.folded; stand = c.what_is_written_is_read.ensures.stand; before = c.stopped_steps_stand.ensures.before; stopped = c.stopped_steps_stand.ensures.stopped; whole = c.stopped_steps_stand.ensures.whole } in
    let read = c.scripts_have_one_run.ensures.some (lines c.args.script.now) in
    record {
      stands = (
        first_of x,
        puts (as_writes (opening f)) lists,
        (O c.args.bench).told,
        first_run read.0 (start given x),
        stands-begun laws read.0 given lists f w v (O c.args.bench) (O c.open.new.bench) opened
            (new-sessions read.0 given x v (c.steps_leave_other_sessions.ensures.begin given x) c.new-sessions.ensures.txns c.new-sessions.ensures.names c.new-sessions.ensures.actors c.new-sessions.ensures.grids),
        at-script c.args.script.now read.0 (start given x) read.1,
      );
    }

pub returns-in-Ok-run_lines-clause-whole : goal.returns-in-Ok-run_lines-clause-whole
returns-in-Ok-run_lines-clause-whole g c _ run begins =
    let O = g.B.Bench.outside in
    let o = O c.args.bench in
    let m = O c.open.new.bench in
    let n = O c.run_lines.new.bench in
    let w = c.in-Ok.engine in
    let laws : Laws = record { folded = c.what_is_written_is_read.ensures.folded; stand = c.what_is_written_is_read.ensures.stand; before = c.stopped_steps_stand.ensures.before; stopped = c.stopped_steps_stand.ensures.stopped; whole = c.stopped_steps_stand.ensures.whole } in
    let ready = ready-of laws c.steps_leave_other_sessions.ensures.begin c.args.given c.args.script.now c.in-Ok.ensures.begun.0 c.in-Ok.ensures.begun.1 w c.new-sessions.result o m
    (record { begun = c.in-Ok.ensures.begun.2; is = c.in-Ok.ensures.begun.3 }) c.new-sessions.ensures.txns c.new-sessions.ensures.names c.new-sessions.ensures.actors c.new-sessions.ensures.grids run begins in
    let parts : Parts = record { put = c.records_in_parts.ensures.puts; full = c.records_in_parts.ensures.full } in
    let done = c.in-Ok-run_lines.ensures.done (first_of (stored_of run.folds)) (puts (as_writes (opening run.folds)) run.lists) o.told (run_of run) ready.stands ready.at in
    whole-run run w o m ready.opened begins.areas_have laws parts done.0 c.run_lines.new.engine c.run_lines.new.sessions n done.1 done.2 done.3

pub returns-in-Ok-run_lines-clause-history : goal.returns-in-Ok-run_lines-clause-history
returns-in-Ok-run_lines-clause-history g c run begins =
    let O = g.B.Bench.outside in
    let o = O c.args.bench in
    let m = O c.open.new.bench in
    let n = O c.run_lines.new.bench in
    let w = c.in-Ok.engine in
    let laws : Laws = record { folded = c.what_is_written_is_read.ensures.folded; stand = c.what_is_written_is_read.ensures.stand; before = c.stopped_steps_stand.ensures.before; stopped = c.stopped_steps_stand.ensures.stopped; whole = c.stopped_steps_stand.ensures.whole } in
    let ready = ready-of laws c.steps_leave_other_sessions.ensures.begin c.args.given c.args.script.now c.in-Ok.ensures.begun.0 c.in-Ok.ensures.begun.1 w c.new-sessions.result o m
    (record { begun = c.in-Ok.ensures.begun.2; is = c.in-Ok.ensures.begun.3 }) c.new-sessions.ensures.txns c.new-sessions.ensures.names c.new-sessions.ensures.actors c.new-sessions.ensures.grids run begins in
    inside-then run w o m ready.opened begins.areas_have n (c.open.ensures.fronts run.lists run.folds begins.areas_have) (c.run_lines.ensures.history (first_of (stored_of run.folds)) (puts (as_writes (opening run.folds)) run.lists) o.told (run_of run) ready.stands ready.at)

pub returns-in-Ok-run_lines-clause-stood : goal.returns-in-Ok-run_lines-clause-stood
returns-in-Ok-run_lines-clause-stood g c was x told =
    let begun = c.in-Ok.ensures.begun in
    found-stands begun.0 begun.1 (g.B.Bench.outside c.args.bench) (begun.2.found x told) x told

pub returns-in-Ok-run_lines-clause-unopened : goal.returns-in-Ok-run_lines-clause-unopened
returns-in-Ok-run_lines-clause-unopened g c x told nothing =
    let begun = c.in-Ok.ensures.begun in
    let stood = found-stands begun.0 begun.1 (g.B.Bench.outside c.args.bench) (begun.2.found x told) x told in
    absurd (nothing stood.0 stood.1)

pub returns-in-Err-run_lines-clause-history : goal.returns-in-Err-run_lines-clause-history
returns-in-Err-run_lines-clause-history g c run begins =
    let O = g.B.Bench.outside in
    let o = O c.args.bench in
    let m = O c.open.new.bench in
    let n = O c.run_lines.new.bench in
    let w = c.in-Ok.engine in
    let laws : Laws = record { folded = c.what_is_written_is_read.ensures.folded; stand = c.what_is_written_is_read.ensures.stand; before = c.stopped_steps_stand.ensures.before; stopped = c.stopped_steps_stand.ensures.stopped; whole = c.stopped_steps_stand.ensures.whole } in
    let ready = ready-of laws c.steps_leave_other_sessions.ensures.begin c.args.given c.args.script.now c.in-Ok.ensures.begun.0 c.in-Ok.ensures.begun.1 w c.new-sessions.result o m
    (record { begun = c.in-Ok.ensures.begun.2; is = c.in-Ok.ensures.begun.3 }) c.new-sessions.ensures.txns c.new-sessions.ensures.names c.new-sessions.ensures.actors c.new-sessions.ensures.grids run begins in
    inside-then run w o m ready.opened begins.areas_have n (c.open.ensures.fronts run.lists run.folds begins.areas_have) (c.run_lines.ensures.history (first_of (stored_of run.folds)) (puts (as_writes (opening run.folds)) run.lists) o.told (run_of run) ready.stands ready.at)

pub returns-in-Err-run_lines-clause-full : goal.returns-in-Err-run_lines-clause-full
returns-in-Err-run_lines-clause-full g c full is run begins =
    let O = g.B.Bench.outside in
    let o = O c.args.bench in
    let m = O c.open.new.bench in
    let n = O c.run_lines.new.bench in
    let w = c.in-Ok.engine in
    let laws : Laws = record { folded = c.what_is_written_is_read.ensures.folded; stand = c.what_is_written_is_read.ensures.stand; before = c.stopped_steps_stand.ensures.before; stopped = c.stopped_steps_stand.ensures.stopped; whole = c.stopped_steps_stand.ensures.whole } in
    let ready = ready-of laws c.steps_leave_other_sessions.ensures.begin c.args.given c.args.script.now c.in-Ok.ensures.begun.0 c.in-Ok.ensures.begun.1 w c.new-sessions.result o m
    (record { begun = c.in-Ok.ensures.begun.2; is = c.in-Ok.ensures.begun.3 }) c.new-sessions.ensures.txns c.new-sessions.ensures.names c.new-sessions.ensures.actors c.new-sessions.ensures.grids run begins in
    full-then run w o m ready.opened begins.areas_have full n (c.in-Err-run_lines.ensures.full full (ap (λ (e : StepFault). Err e) (step-full c.in-Err-run_lines.fault full (sym c.step_end.ensures ∙ is))) (first_of (stored_of run.folds)) (puts (as_writes (opening run.folds)) run.lists) o.told (run_of run) ready.stands ready.at)

pub returns-in-Err-run_lines-clause-end : goal.returns-in-Err-run_lines-clause-end
returns-in-Err-run_lines-clause-end g c = subst IsRunEnd (sym c.step_end.ensures) (step-ends c.in-Err-run_lines.fault)

pub returns-in-Err-run_lines-clause-whole : goal.returns-in-Err-run_lines-clause-whole
returns-in-Err-run_lines-clause-whole g c is = absurd (step-never-done c.in-Err-run_lines.fault (sym c.step_end.ensures ∙ is))

pub returns-in-Err-run_lines-clause-not_a_store : goal.returns-in-Err-run_lines-clause-not_a_store
returns-in-Err-run_lines-clause-not_a_store g c area place is = absurd (step-no-store c.in-Err-run_lines.fault area place (sym c.step_end.ensures ∙ is))

pub returns-in-Err-run_lines-clause-device : goal.returns-in-Err-run_lines-clause-device
returns-in-Err-run_lines-clause-device g c is =
    let O = g.B.Bench.outside in
    rose-later (O c.args.bench) (O c.open.new.bench) (O c.run_lines.new.bench) (omega (arith, c.in-Ok.ensures.begun.2.begun.clean))
    (c.in-Err-run_lines.ensures.device (ap (λ (e : StepFault). Err e) (step-device c.in-Err-run_lines.fault (sym c.step_end.ensures ∙ is))))

pub returns-in-Err-run_lines-clause-stood : goal.returns-in-Err-run_lines-clause-stood
returns-in-Err-run_lines-clause-stood g c was x told =
    let begun = c.in-Ok.ensures.begun in
    found-stands begun.0 begun.1 (g.B.Bench.outside c.args.bench) (begun.2.found x told) x told

pub returns-in-Err-run_lines-clause-unopened : goal.returns-in-Err-run_lines-clause-unopened
returns-in-Err-run_lines-clause-unopened g c x told nothing =
    let begun = c.in-Ok.ensures.begun in
    let stood = found-stands begun.0 begun.1 (g.B.Bench.outside c.args.bench) (begun.2.found x told) x told in
    absurd (nothing stood.0 stood.1)

-- where the areas do not open

pub returns-in-Err-clause-history : goal.returns-in-Err-clause-history
returns-in-Err-clause-history g c run begins =
    inside-opening run (g.B.Bench.outside c.args.bench) (g.B.Bench.outside c.open.new.bench) (c.open.ensures.fronts run.lists run.folds begins.areas_have)

pub returns-in-Err-clause-device : goal.returns-in-Err-clause-device
returns-in-Err-clause-device g c is = c.in-Err.ensures.device (ap (λ (e : OpenFault). Err e) (opening-device c.in-Err.fault (sym c.opening_end.ensures ∙ is)))

pub returns-in-Err-clause-not_a_store : goal.returns-in-Err-clause-not_a_store
returns-in-Err-clause-not_a_store g c area place is =
    let which = ap (λ (e : OpenFault). Err e) (opening-no-store c.in-Err.fault area place (sym c.opening_end.ensures ∙ is)) in
    record {
      nothing = c.in-Err.ensures.no_store area place which;
      unwritten = c.in-Err.ensures.unwritten area place which;
      told = c.open.ensures.told;
    }

pub returns-in-Err-clause-unopened : goal.returns-in-Err-clause-unopened
returns-in-Err-clause-unopened g c x told nothing = (c.open.ensures.unopened x told nothing, c.open.ensures.told)

pub returns-in-Err-clause-full : goal.returns-in-Err-clause-full
returns-in-Err-clause-full g c full is run begins =
    let which = ap (λ (e : OpenFault). Err e) (opening-full c.in-Err.fault full (sym c.opening_end.ensures ∙ is)) in
    inl (record {
      full_is = subst (λ (s : Settings). full_in (journals_with s.limit run.lists) (as_writes (opening run.folds)) ≡ Some full) (sym begins.given_is) (c.in-Err.ensures.full full which run.lists run.folds begins.areas_have);
      told = c.open.ensures.told;
      has = λ p now. subst (λ (s : Settings). HasLists (puts (fitting (journals_with s.limit run.lists) (as_writes (opening run.folds))) run.lists) p) (sym begins.given_is)
          (c.in-Err.ensures.there full which run.lists run.folds begins.areas_have p now);
    })

pub returns-in-Err-clause-stood : goal.returns-in-Err-clause-stood
returns-in-Err-clause-stood g c was x told =
    let full = opening-opened c.in-Err.fault (subst WasOpened c.opening_end.ensures was) in
    let found = c.in-Err.ensures.found full.0 (ap (λ (e : OpenFault). Err e) full.1) x told in
    found-stands found.0 found.1 (g.B.Bench.outside c.args.bench) found.2 x told

pub returns-in-Ok-run_lines-clause-clean : goal.returns-in-Ok-run_lines-clause-clean
returns-in-Ok-run_lines-clause-clean g c is = c.in-Ok-run_lines.ensures.clean ∙ c.in-Ok.ensures.begun.2.begun.clean

pub returns-in-Err-run_lines-clause-clean : goal.returns-in-Err-run_lines-clause-clean
returns-in-Err-run_lines-clause-clean g c is = absurd (step-never-done c.in-Err-run_lines.fault (sym c.step_end.ensures ∙ is))
