use Rattle.std.proofs.Common.{List, Some, OnOk, refl, sym, ◌∙◌, ap, subst}
use Rattle.std.specs.Result.{result_err}
use Rattle.dl_areas.specs.Lists.{Write}
use Rattle.dl_codec.specs.declared.links.BranchPhase.{BranchPhase}
use Rattle.meaning_areas.specs.Finishing.{committed_record}
use Rattle.meaning_areas.specs.Lists.{Written}
use Rattle.meaning_settling.specs.Settling.{Moved}
use Rattle.fm_manager.proofs.Folding.{on-ok, taken-rest, to-then, writes-append}
use Rattle.fm_manager.proofs.Parts.{finish-parts}
use Rattle.fm_manager.specs.Managed.{FoldsTo, IsTakenBy, Manages, as_writes, kept_in}
use Rattle.fm_manager.specs.Pieces.{CanFinish, IsDoubtful, Pieces, changes_in, manager_part, settling_part}
use Rattle.fm_manager.proofs.manager.Manager.finish.Goals as goal

pub settle-requires-clause-ready : goal.settle-requires-clause-ready
settle-requires-clause-ready g c =
    let fits = subst (λ (p : Pieces). CanFinish c.args.self.now p) (sym c.pieces.view_is) c.requires.fits in
    (c.in-Ok.ensures.does fits.0 fits.1 fits.2).opens refl c.requires.ready

pub settle-requires-clause-taken : goal.settle-requires-clause-taken
settle-requires-clause-taken g c =
    let q : Pieces = record { tx = c.pieces.inside.tx; copies = c.pieces.inside.copies; changes = changes_in c.pieces.inside.changes } in
    let fits = subst (λ (p : Pieces). CanFinish c.args.self.now p) (sym c.pieces.view_is) c.requires.fits in
    taken-rest c.args.self.now c.mark.new.self c.mark.new.self (committed_record q.tx fits.1) (settling_part q.tx q.copies q.changes)
    (subst (λ (xs : List Written). IsTakenBy c.args.self.now xs) (finish-parts c.args.self.now q fits fits.0 fits.1 fits.2) fits.4)
    (c.in-Ok.ensures.folds fits.0 fits.1 fits.2)

pub returns-in-Ok-clause-folds : goal.returns-in-Ok-clause-folds
returns-in-Ok-clause-folds g c =
    let q : Pieces = record { tx = c.pieces.inside.tx; copies = c.pieces.inside.copies; changes = changes_in c.pieces.inside.changes } in
    let now = c.args.self.now in
    let fits = subst (λ (p : Pieces). CanFinish now p) (sym c.pieces.view_is) c.requires.fits in
    subst (λ (p : Pieces). OnOk c.settle.result ((moved : Moved) (phase : BranchPhase) → IsDoubtful now p.tx moved phase → FoldsTo now c.settle.new.self (manager_part p.tx phase moved (kept_in now)))) c.pieces.view_is
    (on-ok c.settle.result c.settle.ensures.folds (λ more moved phase d.
    subst (λ (xs : List Written). FoldsTo now c.settle.new.self xs) (sym (finish-parts now q fits moved phase d))
    (to-then now c.mark.new.self c.settle.new.self (committed_record q.tx phase) (settling_part q.tx q.copies q.changes) (c.in-Ok.ensures.folds moved phase d) more)))

pub returns-in-Ok-clause-does : goal.returns-in-Ok-clause-does
returns-in-Ok-clause-does g c =
    let O = g.B.Bench.outside in
    let q : Pieces = record { tx = c.pieces.inside.tx; copies = c.pieces.inside.copies; changes = changes_in c.pieces.inside.changes } in
    let now = c.args.self.now in
    let fits = subst (λ (p : Pieces). CanFinish now p) (sym c.pieces.view_is) c.requires.fits in
    subst (λ (p : Pieces). (moved : Moved) (phase : BranchPhase) → IsDoubtful now p.tx moved phase
    → Manages now c.settle.new.self (as_writes (manager_part p.tx phase moved (kept_in now))) (result_err c.settle.result) (O c.args.bench.now) (O c.settle.new.bench)) c.pieces.view_is
    (λ moved phase d.
    subst (λ (ws : List Write). Manages now c.settle.new.self ws (result_err c.settle.result) (O c.args.bench.now) (O c.settle.new.bench))
    (sym (ap as_writes (finish-parts now q fits moved phase d) ∙ writes-append (committed_record q.tx phase) (settling_part q.tx q.copies q.changes)))
    (c.calls_of_the_manager.ensures.then now c.mark.new.self c.settle.new.self (as_writes (committed_record q.tx phase)) (as_writes (settling_part q.tx q.copies q.changes)) (result_err c.settle.result)
    c.args.bench.now c.mark.new.bench c.settle.new.bench (c.in-Ok.ensures.does moved phase d) c.settle.ensures.does))

pub returns-in-Err-clause-does : goal.returns-in-Err-clause-does
returns-in-Err-clause-does g c =
    let O = g.B.Bench.outside in
    let q : Pieces = record { tx = c.pieces.inside.tx; copies = c.pieces.inside.copies; changes = changes_in c.pieces.inside.changes } in
    let now = c.args.self.now in
    let fits = subst (λ (p : Pieces). CanFinish now p) (sym c.pieces.view_is) c.requires.fits in
    subst (λ (p : Pieces). (moved : Moved) (phase : BranchPhase) → IsDoubtful now p.tx moved phase
    → Manages now c.mark.new.self (as_writes (manager_part p.tx phase moved (kept_in now))) (Some c.in-Err.fault) (O c.args.bench.now) (O c.mark.new.bench)) c.pieces.view_is
    (λ moved phase d.
    subst (λ (ws : List Write). Manages now c.mark.new.self ws (Some c.in-Err.fault) (O c.args.bench.now) (O c.mark.new.bench))
    (sym (ap as_writes (finish-parts now q fits moved phase d) ∙ writes-append (committed_record q.tx phase) (settling_part q.tx q.copies q.changes)))
    (c.calls_of_the_manager.ensures.stop now c.mark.new.self (as_writes (committed_record q.tx phase)) (as_writes (settling_part q.tx q.copies q.changes)) c.in-Err.fault
    c.args.bench.now c.mark.new.bench (c.in-Err.ensures.does moved phase d)))
