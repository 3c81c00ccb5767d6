use Rattle.std.proofs.Common.{◌≡◌, List, Some, refl, sym, ◌∙◌, ap, subst}
use Rattle.std.specs.Result.{result_err}
use Rattle.fm_manager.specs.Managed.{as_writes}
use Rattle.meaning_areas.specs.Lists.{Folds, Written}
use Rattle.meaning_areas.specs.Stands.{IsStand, Stored, stored_of}
use Rattle.meaning_history.specs.Reached.{HasPast}
use Rattle.meaning_system.specs.Writes.{opening}
use Rattle.sys_opening.proofs.Records.{behind, behind-counted, counted-stand, counts, opening-leads}
use Rattle.sys_opening.proofs.Halts.{halts-stop, halts-then}
use Rattle.sys_opening.proofs.Spelling.{counts-have}
use Rattle.sys_opening.proofs.Trying.{tries-all, tries-behind, tries-more}
use Rattle.sys_opening.specs.Faults.{open_fault_of}
use Rattle.sys_opening.specs.Halting.{Halts, Tries}
use Rattle.sys_opening.specs.declared.fault.OpenFault.{OpenFault}
use Rattle.sys_owners.proofs.Placing.{on-ok}
use Rattle.sys_owners.specs.Owned.{folds_in, journals_of}
use Rattle.sys_opening.proofs.beginning.write_all.Goals as goal

pub resolve-requires-clause-ready : goal.resolve-requires-clause-ready
resolve-requires-clause-ready g c = c.in-Ok.ensures.does.ready refl c.requires.ready

pub resolve-requires-clause-stand : goal.resolve-requires-clause-stand
resolve-requires-clause-stand g c =
    let f = folds_in c.args.owners.now in
    let laws = c.openings_ends_and_copies_are_taken.ensures in
    let P : Folds → Type 0 = λ h. (x : Stored) × IsStand h x × HasPast x in
    subst P (sym c.in-Ok.ensures.folds)
    (counted-stand laws.rows laws.links f (stored_of f) c.requires.stand c.requires.past c.an_opening_leads_to_the_start.ensures.fronts c.an_opening_may_be_stopped.ensures.past)

pub returns-in-Ok-clause-leads : goal.returns-in-Ok-clause-leads
returns-in-Ok-clause-leads g c =
    let f = folds_in c.args.owners.now in
    let laws = c.openings_ends_and_copies_are_taken.ensures in
    on-ok c.resolve.result c.resolve.ensures.folds
    (λ leads. opening-leads laws.rows laws.links f (stored_of f) c.requires.stand c.requires.past c.an_opening_goes_by_its_present_lists.ensures.settles (folds_in c.announce.new.owners) (folds_in c.resolve.new.owners) c.in-Ok.ensures.folds leads)

pub returns-in-Ok-clause-drawn : goal.returns-in-Ok-clause-drawn
returns-in-Ok-clause-drawn g c = on-ok c.resolve.result c.resolve.ensures.drawn (λ same. same ∙ c.in-Ok.ensures.drawn)

pub returns-in-Ok-clause-halts : goal.returns-in-Ok-clause-halts
returns-in-Ok-clause-halts g c =
    let O = g.B.Bench.outside in
    let f = folds_in c.args.owners.now in
    let laws = c.openings_ends_and_copies_are_taken.ensures in
    let js = journals_of c.args.owners.now in
    let ks = journals_of c.announce.new.owners in
    let ls = journals_of c.resolve.new.owners in
    let same : behind (folds_in c.announce.new.owners) ≡ behind f =
    ap behind c.in-Ok.ensures.folds ∙ behind-counted laws.rows laws.links f (stored_of f) c.requires.stand c.requires.past c.an_opening_goes_by_its_present_lists.ensures.settles in
    halts-then js ks ls (as_writes (counts f)) (as_writes (behind f)) (O c.args.bench.now) (O c.announce.new.bench) (O c.resolve.new.bench)
    (λ us fault d. c.calls_follow_one_another.ensures.then js ks ls (as_writes (counts f)) us fault c.args.bench.now c.announce.new.bench c.resolve.new.bench c.in-Ok.ensures.does d)
    (result_err c.resolve.result)
    (subst (λ (xs : List Written). Halts ks ls (as_writes xs) (result_err c.resolve.result) (O c.announce.new.bench) (O c.resolve.new.bench)) same c.resolve.ensures.halts)

pub returns-in-Err-clause-halts : goal.returns-in-Err-clause-halts
returns-in-Err-clause-halts g c =
    let O = g.B.Bench.outside in
    let f = folds_in c.args.owners.now in
    let js = journals_of c.args.owners.now in
    let ks = journals_of c.announce.new.owners in
    let made : open_fault_of c.in-Err.fault ≡ c.from.result = sym c.from.ensures in
    subst (λ (e : OpenFault). Halts js ks (as_writes (opening f)) (Some e) (O c.args.bench.now) (O c.announce.new.bench)) made
    (halts-stop js ks (as_writes (opening f)) c.in-Err.fault (O c.args.bench.now) (O c.announce.new.bench)
    (c.calls_follow_one_another.ensures.stop js ks (as_writes (counts f)) (as_writes (behind f)) c.in-Err.fault c.args.bench.now c.announce.new.bench c.in-Err.ensures.does))

pub returns-in-Ok-clause-tries : goal.returns-in-Ok-clause-tries
returns-in-Ok-clause-tries g c =
    let O = g.B.Bench.outside in
    let f = folds_in c.args.owners.now in
    let laws = c.openings_ends_and_copies_are_taken.ensures in
    let js = journals_of c.args.owners.now in
    let ks = journals_of c.announce.new.owners in
    let ls = journals_of c.resolve.new.owners in
    let same : behind (folds_in c.announce.new.owners) ≡ behind f =
    ap behind c.in-Ok.ensures.folds ∙ behind-counted laws.rows laws.links f (stored_of f) c.requires.stand c.requires.past c.an_opening_goes_by_its_present_lists.ensures.settles in
    tries-behind js ks ls (O c.args.bench.now) (O c.announce.new.bench) (O c.resolve.new.bench)
    (λ ws vs fault. c.calls_follow_one_another.ensures.then js ks ls ws vs fault c.args.bench.now c.announce.new.bench c.resolve.new.bench)
    (counts f) (behind f) (opening f) refl (result_err c.resolve.result) (counts-have f) c.in-Ok.ensures.does
    (subst (λ (xs : List Written). Tries ks ls xs (result_err c.resolve.result) (O c.announce.new.bench) (O c.resolve.new.bench)) same c.resolve.ensures.tries)

pub returns-in-Err-clause-tries : goal.returns-in-Err-clause-tries
returns-in-Err-clause-tries g c =
    let O = g.B.Bench.outside in
    let f = folds_in c.args.owners.now in
    let js = journals_of c.args.owners.now in
    let ks = journals_of c.announce.new.owners in
    let made : open_fault_of c.in-Err.fault ≡ c.from.result = sym c.from.ensures in
    subst (λ (e : OpenFault). Tries js ks (opening f) (Some e) (O c.args.bench.now) (O c.announce.new.bench)) made
    (tries-more js ks (O c.args.bench.now) (O c.announce.new.bench) (counts f) (behind f) (open_fault_of c.in-Err.fault)
    (tries-all js ks (O c.args.bench.now) (O c.announce.new.bench) (counts f) (Some (open_fault_of c.in-Err.fault)) (Some c.in-Err.fault) (counts-have f) c.in-Err.ensures.does))
