use Rattle.std.proofs.Common.{List, None, Some, length, sym, ◌∙◌, ap, subst}
use Rattle.std.specs.Result.{result_err}
use Rattle.dl_areas.specs.Lists.{Write}
use Rattle.dl_areas.specs.Writing.{Does}
use Rattle.dl_codec.specs.declared.links.BranchPhase.TheVariants as branch_phases
use Rattle.fm_manager.specs.Managed.{as_writes}
use Rattle.meaning_areas.specs.Lists.{folds_on}
use Rattle.meaning_areas.specs.Stands.{kept_of}
use Rattle.sys_owners.proofs.Placing.{on-ok}
use Rattle.sys_owners.specs.Owned.{folds_in, journals_of}
use Rattle.sys_records.proofs.PuttingBack.{copies-more, copies-within, may-none, may-some, no-finish, settle-doubt, settle-end, settle-fits, settle-records}
use Rattle.sys_records.proofs.restoring.settle.Goals as goal

pub finish-requires-clause-fits : goal.finish-requires-clause-fits
finish-requires-clause-fits g c =
    let w = c.args.owners.now in
    let it = c.requires.can in
    settle-fits w.manager w.store.rows it.0 it.1 c.in-Some.pieces (may-some w.manager w.store.rows it.0 it.1 c.args.pieces c.in-Some.pieces c.in-Some.is it.2)

pub finish-requires-clause-room : goal.finish-requires-clause-room
finish-requires-clause-room g c =
    let w = c.args.owners.now in
    let it = c.requires.can in
    (may-some w.manager w.store.rows it.0 it.1 c.args.pieces c.in-Some.pieces c.in-Some.is it.2).made.room

pub finish-requires-clause-end : goal.finish-requires-clause-end
finish-requires-clause-end g c =
    let w = c.args.owners.now in
    let it = c.requires.can in
    settle-end w.manager w.store.rows it.0 it.1 c.in-Some.pieces (may-some w.manager w.store.rows it.0 it.1 c.args.pieces c.in-Some.pieces c.in-Some.is it.2)

pub returns-in-Some-clause-folds : goal.returns-in-Some-clause-folds
returns-in-Some-clause-folds g c =
    let w = c.args.owners.now in
    on-ok c.finish.result c.finish.ensures.folds (λ leads tx gone may.
    let can = may-some w.manager w.store.rows tx gone c.args.pieces c.in-Some.pieces c.in-Some.is may in
    ap (folds_on (Some (folds_in w))) (settle-records w.manager w.store.rows tx gone c.in-Some.pieces can)
    ∙ leads gone branch_phases.Prepared (settle-doubt w.manager w.store.rows tx gone c.in-Some.pieces can))

pub returns-in-Some-clause-copies : goal.returns-in-Some-clause-copies
returns-in-Some-clause-copies g c =
    let w = c.args.owners.now in
    on-ok c.finish.result c.finish.ensures.copies (λ le tx gone may.
    let can = may-some w.manager w.store.rows tx gone c.args.pieces c.in-Some.pieces c.in-Some.is may in
    copies-within w.manager.archive.spare c.finish.new.owners.manager.archive.spare (length c.in-Some.pieces.copies) (length gone.gives) le
    (c.pieces_as_they_are_made.ensures.few gone (kept_of (folds_in w)) c.in-Some.pieces can.made.of))

pub returns-in-Some-clause-does : goal.returns-in-Some-clause-does
returns-in-Some-clause-does g c tx gone may =
    let O = g.B.Bench.outside in
    let w = c.args.owners.now in
    let can = may-some w.manager w.store.rows tx gone c.args.pieces c.in-Some.pieces c.in-Some.is may in
    subst (λ (ws : List Write). Does (journals_of w) (journals_of c.finish.new.owners) ws (result_err c.finish.result) (O c.args.bench.now) (O c.finish.new.bench))
    (sym (ap as_writes (settle-records w.manager w.store.rows tx gone c.in-Some.pieces can)))
    (c.finish.ensures.does gone branch_phases.Prepared (settle-doubt w.manager w.store.rows tx gone c.in-Some.pieces can))

pub returns-in-None-clause-folds : goal.returns-in-None-clause-folds
returns-in-None-clause-folds g c tx gone may =
    let w = c.args.owners.now in
    ap (folds_on (Some (folds_in w))) (no-finish tx gone (kept_of (folds_in w)) (may-none w.manager w.store.rows tx gone c.args.pieces c.in-None.is may))

pub returns-in-None-clause-copies : goal.returns-in-None-clause-copies
returns-in-None-clause-copies g c tx gone may = copies-more c.args.owners.now.manager.archive.spare (length gone.gives)

pub returns-in-None-clause-does : goal.returns-in-None-clause-does
returns-in-None-clause-does g c tx gone may =
    let O = g.B.Bench.outside in
    let w = c.args.owners.now in
    subst (λ (ws : List Write). Does (journals_of w) (journals_of w) ws None (O c.args.bench.now) (O c.args.bench.now))
    (sym (ap as_writes (no-finish tx gone (kept_of (folds_in w)) (may-none w.manager w.store.rows tx gone c.args.pieces c.in-None.is may))))
    (c.calls_follow_one_another.ensures.none (journals_of w) c.args.bench.now)
