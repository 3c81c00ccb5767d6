use Rattle.std.proofs.Common.{◌≡◌, [], Option, None, Some, Ok, Err, Result, sym, ◌∙◌, ap, subst, rules}
use Rattle.std.specs.FinMap as maps
use Rattle.std.specs.Result.{result_err}
use Rattle.dl_areas.specs.Lists.{AreReady, Journals}
use Rattle.dl_areas.specs.Writing.{Does}
use Rattle.fm_manager.specs.Managed.{as_writes}
use Rattle.fm_manager.specs.Pieces.{Pieces}
use Rattle.meaning_system.specs.Writes.{open_writes}
use Rattle.sys_opening.proofs.Finished.{Laws, found-does, found-have, found-left, none-does, none-have, none-settles, roomier-journals}
use Rattle.sys_opening.proofs.Halted.{halts-before}
use Rattle.sys_opening.proofs.Halts.{halts-stop}
use Rattle.sys_opening.proofs.Trying.{tries-all, tries-none}
use Rattle.sys_opening.specs.Faults.{open_fault_of}
use Rattle.sys_opening.specs.Halting.{Halts, Tries}
use Rattle.sys_opening.specs.declared.fault.OpenFault.{OpenFault}
use Rattle.sys_opening.specs.declared.fault.OpenFault.TheVariants as faults
use Rattle.sys_owners.proofs.Placing.{with_manager}
use Rattle.sys_owners.specs.Owned.{Owned, folds_in, journals_of}
use Rattle.sys_opening.proofs.resolving.settle.Goals as goal

-- want of memory, before a record
pub returns-in_err-pieces-clause-halts : goal.returns-in_err-pieces-clause-halts
returns-in_err-pieces-clause-halts g c =
    let O = g.B.Bench.outside in
    let w = c.args.owners.now in
    let u : Owned = with_manager w c.pieces_left.new.self in
    let ws = as_writes (open_writes (folds_in w) c.args.tx (maps.get (folds_in w).links.table c.args.tx)) in
    let is : c.from_residual.result ≡ Err faults.Memory = search rules in
    subst (λ (r : Result Unit OpenFault). Halts (journals_of w) (journals_of u) ws (result_err r) (O c.args.bench.now) (O c.args.bench.now)) (sym is)
    (halts-before (journals_of w) (journals_of u) ws (O c.args.bench.now) (O c.args.bench.now)
    (subst (λ (js : Journals). Does (journals_of w) js [] None (O c.args.bench.now) (O c.args.bench.now)) (sym (roomier-journals w c.pieces_left.new.self c.pieces_left.ensures.same))
    (c.calls_follow_one_another.ensures.none (journals_of w) c.args.bench.now)))

-- nothing is left
pub returns-in_default-clause-settles : goal.returns-in_default-clause-settles
returns-in_default-clause-settles g c =
    none-settles c.args.owners.now c.pieces_left.new.self c.pieces_left.ensures.same c.args.tx (c.pieces_left.ensures.none (c.in_ok-pieces.was ∙ ap (λ (o : Option Pieces). Ok o) c.in_default.is))

pub returns-in_default-clause-halts : goal.returns-in_default-clause-halts
returns-in_default-clause-halts g c =
    let w = c.args.owners.now in
    none-does w c.pieces_left.new.self c.pieces_left.ensures.same c.args.tx (c.pieces_left.ensures.none (c.in_ok-pieces.was ∙ ap (λ (o : Option Pieces). Ok o) c.in_default.is))
    (g.B.Bench.outside c.args.bench.now) (c.calls_follow_one_another.ensures.none (journals_of w) c.args.bench.now)

-- a Finish
pub finish-requires-clause-ready : goal.finish-requires-clause-ready
finish-requires-clause-ready g c =
    let w = c.args.owners.now in
    subst (λ (js : Journals). AreReady js (g.B.Bench.outside c.args.bench.now)) (sym (roomier-journals w c.pieces_left.new.self c.pieces_left.ensures.same)) c.requires.ready

pub finish-requires-clause-fits : goal.finish-requires-clause-fits
finish-requires-clause-fits g c =
    let O = g.B.Bench.outside in
    let w = c.args.owners.now in
    let n = c.pieces_left.new.self in
    let laws : Laws = record { leads = c.a_finish_goes_on.ensures.leads; ended = c.openings_ends_and_copies_are_taken.ensures.ended; numbers = c.steps_keep_tables_fitting.ensures.numbers } in
    let a = found-left laws w c.requires.stand c.args.tx c.requires.committed c.in_ok-pieces.field-0 c.in-Some.pieces c.in-Some.is c.in_ok-pieces.ensures.tx c.in_ok-pieces.ensures.some n c.pieces_left.ensures.same in
    a.can

pub finish-requires-clause-end : goal.finish-requires-clause-end
finish-requires-clause-end g c =
    let O = g.B.Bench.outside in
    let w = c.args.owners.now in
    let n = c.pieces_left.new.self in
    let laws : Laws = record { leads = c.a_finish_goes_on.ensures.leads; ended = c.openings_ends_and_copies_are_taken.ensures.ended; numbers = c.steps_keep_tables_fitting.ensures.numbers } in
    let a = found-left laws w c.requires.stand c.args.tx c.requires.committed c.in_ok-pieces.field-0 c.in-Some.pieces c.in-Some.is c.in_ok-pieces.ensures.tx c.in_ok-pieces.ensures.some n c.pieces_left.ensures.same in
    a.end

pub returns-clause-settles : goal.returns-clause-settles
returns-clause-settles g c =
    let O = g.B.Bench.outside in
    let w = c.args.owners.now in
    let n = c.pieces_left.new.self in
    let laws : Laws = record { leads = c.a_finish_goes_on.ensures.leads; ended = c.openings_ends_and_copies_are_taken.ensures.ended; numbers = c.steps_keep_tables_fitting.ensures.numbers } in
    let a = found-left laws w c.requires.stand c.args.tx c.requires.committed c.in_ok-pieces.field-0 c.in-Some.pieces c.in-Some.is c.in_ok-pieces.ensures.tx c.in_ok-pieces.ensures.some n c.pieces_left.ensures.same in
    a.settles (folds_in c.finish.new.owners) (c.in_ok-finish.ensures.folds a.moved a.phase a.doubtful)

pub returns-clause-halts : goal.returns-clause-halts
returns-clause-halts g c =
    let O = g.B.Bench.outside in
    let w = c.args.owners.now in
    let n = c.pieces_left.new.self in
    let laws : Laws = record { leads = c.a_finish_goes_on.ensures.leads; ended = c.openings_ends_and_copies_are_taken.ensures.ended; numbers = c.steps_keep_tables_fitting.ensures.numbers } in
    let a = found-left laws w c.requires.stand c.args.tx c.requires.committed c.in_ok-pieces.field-0 c.in-Some.pieces c.in-Some.is c.in_ok-pieces.ensures.tx c.in_ok-pieces.ensures.some n c.pieces_left.ensures.same in
    found-does w (with_manager w n) c.finish.new.owners c.args.tx c.in-Some.pieces a None (O c.args.bench.now) (O c.finish.new.bench) (c.in_ok-finish.ensures.does a.moved a.phase a.doubtful)

pub returns-in_err-finish-clause-halts : goal.returns-in_err-finish-clause-halts
returns-in_err-finish-clause-halts g c =
    let O = g.B.Bench.outside in
    let w = c.args.owners.now in
    let n = c.pieces_left.new.self in
    let laws : Laws = record { leads = c.a_finish_goes_on.ensures.leads; ended = c.openings_ends_and_copies_are_taken.ensures.ended; numbers = c.steps_keep_tables_fitting.ensures.numbers } in
    let a = found-left laws w c.requires.stand c.args.tx c.requires.committed c.in_ok-pieces.field-0 c.in-Some.pieces c.in-Some.is c.in_ok-pieces.ensures.tx c.in_ok-pieces.ensures.some n c.pieces_left.ensures.same in
    let u = c.finish.new.owners in
    let fault = c.in_err-finish.field-0.0 in
    let ws = as_writes (open_writes (folds_in w) c.args.tx (maps.get (folds_in w).links.table c.args.tx)) in
    let is : c.from_residual-in_err-finish.result ≡ Err (open_fault_of fault) = search rules in
    subst (λ (r : Result Unit OpenFault). Halts (journals_of w) (journals_of u) ws (result_err r) (O c.args.bench.now) (O c.finish.new.bench)) (sym is)
    (halts-stop (journals_of w) (journals_of u) ws fault (O c.args.bench.now) (O c.finish.new.bench)
    (found-does w (with_manager w n) u c.args.tx c.in-Some.pieces a (Some fault) (O c.args.bench.now) (O c.finish.new.bench) (c.in_err-finish.ensures.does a.moved a.phase a.doubtful)))

-- what was tried has spellings

pub returns-in_err-pieces-clause-tries : goal.returns-in_err-pieces-clause-tries
returns-in_err-pieces-clause-tries g c =
    let O = g.B.Bench.outside in
    let w = c.args.owners.now in
    let u : Owned = with_manager w c.pieces_left.new.self in
    let xs = open_writes (folds_in w) c.args.tx (maps.get (folds_in w).links.table c.args.tx) in
    let is : c.from_residual.result ≡ Err faults.Memory = search rules in
    subst (λ (r : Result Unit OpenFault). Tries (journals_of w) (journals_of u) xs (result_err r) (O c.args.bench.now) (O c.args.bench.now)) (sym is)
    (tries-none (journals_of w) (journals_of u) (O c.args.bench.now) (O c.args.bench.now) xs faults.Memory
    (subst (λ (js : Journals). Does (journals_of w) js [] None (O c.args.bench.now) (O c.args.bench.now)) (sym (roomier-journals w c.pieces_left.new.self c.pieces_left.ensures.same))
    (c.calls_follow_one_another.ensures.none (journals_of w) c.args.bench.now)))

pub returns-in_default-clause-tries : goal.returns-in_default-clause-tries
returns-in_default-clause-tries g c =
    let O = g.B.Bench.outside in
    let w = c.args.owners.now in
    let n = c.pieces_left.new.self in
    let none = c.pieces_left.ensures.none (c.in_ok-pieces.was ∙ ap (λ (o : Option Pieces). Ok o) c.in_default.is) in
    let xs = open_writes (folds_in w) c.args.tx (maps.get (folds_in w).links.table c.args.tx) in
    tries-all (journals_of w) (journals_of (with_manager w n)) (O c.args.bench.now) (O c.args.bench.now) xs None None
    (none-have w n c.pieces_left.ensures.same c.args.tx none)
    (none-does w n c.pieces_left.ensures.same c.args.tx none (O c.args.bench.now) (c.calls_follow_one_another.ensures.none (journals_of w) c.args.bench.now))

pub returns-clause-tries : goal.returns-clause-tries
returns-clause-tries g c =
    let O = g.B.Bench.outside in
    let w = c.args.owners.now in
    let n = c.pieces_left.new.self in
    let laws : Laws = record { leads = c.a_finish_goes_on.ensures.leads; ended = c.openings_ends_and_copies_are_taken.ensures.ended; numbers = c.steps_keep_tables_fitting.ensures.numbers } in
    let a = found-left laws w c.requires.stand c.args.tx c.requires.committed c.in_ok-pieces.field-0 c.in-Some.pieces c.in-Some.is c.in_ok-pieces.ensures.tx c.in_ok-pieces.ensures.some n c.pieces_left.ensures.same in
    let xs = open_writes (folds_in w) c.args.tx (maps.get (folds_in w).links.table c.args.tx) in
    tries-all (journals_of w) (journals_of c.finish.new.owners) (O c.args.bench.now) (O c.finish.new.bench) xs None None
    (found-have w (with_manager w n) c.args.tx c.in-Some.pieces a c.are_spelled.ensures)
    (found-does w (with_manager w n) c.finish.new.owners c.args.tx c.in-Some.pieces a None (O c.args.bench.now) (O c.finish.new.bench) (c.in_ok-finish.ensures.does a.moved a.phase a.doubtful))

pub returns-in_err-finish-clause-tries : goal.returns-in_err-finish-clause-tries
returns-in_err-finish-clause-tries g c =
    let O = g.B.Bench.outside in
    let w = c.args.owners.now in
    let n = c.pieces_left.new.self in
    let laws : Laws = record { leads = c.a_finish_goes_on.ensures.leads; ended = c.openings_ends_and_copies_are_taken.ensures.ended; numbers = c.steps_keep_tables_fitting.ensures.numbers } in
    let a = found-left laws w c.requires.stand c.args.tx c.requires.committed c.in_ok-pieces.field-0 c.in-Some.pieces c.in-Some.is c.in_ok-pieces.ensures.tx c.in_ok-pieces.ensures.some n c.pieces_left.ensures.same in
    let u = c.finish.new.owners in
    let fault = c.in_err-finish.field-0.0 in
    let xs = open_writes (folds_in w) c.args.tx (maps.get (folds_in w).links.table c.args.tx) in
    let is : c.from_residual-in_err-finish.result ≡ Err (open_fault_of fault) = search rules in
    subst (λ (r : Result Unit OpenFault). Tries (journals_of w) (journals_of u) xs (result_err r) (O c.args.bench.now) (O c.finish.new.bench)) (sym is)
    (tries-all (journals_of w) (journals_of u) (O c.args.bench.now) (O c.finish.new.bench) xs (Some (open_fault_of fault)) (Some fault)
    (found-have w (with_manager w n) c.args.tx c.in-Some.pieces a c.are_spelled.ensures)
    (found-does w (with_manager w n) u c.args.tx c.in-Some.pieces a (Some fault) (O c.args.bench.now) (O c.finish.new.bench) (c.in_err-finish.ensures.does a.moved a.phase a.doubtful)))
