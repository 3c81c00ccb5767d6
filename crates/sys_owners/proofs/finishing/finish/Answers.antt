use Rattle.std.proofs.Common.{ℕ, [], ◌∷◌, ◌++◌, None, Some, refl, sym, ◌∙◌, ap, subst}
use Rattle.std.specs.Result.{result_err}
use Rattle.db_store.specs.Store.{CanEnd, ended_write}
use Rattle.dl_areas.specs.Writing.{Does}
use Rattle.dl_base.specs.declared.area.Area.TheVariants.{Rows}
use Rattle.fm_manager.specs.Managed.{as_writes, kept_in}
use Rattle.fm_manager.specs.Pieces.{manager_part}
use Rattle.meaning_areas.specs.Commits.{with_ended}
use Rattle.sys_owners.proofs.Ending.{finish-does, finish-folds, last}
use Rattle.sys_owners.proofs.Placing.{manager-does, manager-open, on-ok, store-does, with_manager, with_store}
use Rattle.sys_owners.specs.Owned.{Owned, journals_of}
use Rattle.sys_owners.proofs.finishing.finish.Goals as goal

pub finish-requires-clause-ready : goal.finish-requires-clause-ready
finish-requires-clause-ready g c = manager-open c.args.owners.now (g.B.Bench.outside c.args.bench.now) c.requires.ready

pub ended-requires-clause-ready : goal.ended-requires-clause-ready
ended-requires-clause-ready g c =
    let O = g.B.Bench.outside in
    let w = c.args.owners.now in
    let can = c.requires.fits in
    let one = manager-does w (as_writes (manager_part c.args.pieces.tx can.1 can.0 (kept_in w.manager))) None (O c.args.bench.now) (O c.finish.new.bench) c.requires.ready c.finish.new.self (c.in-Ok.ensures.does can.0 can.1 can.2) in
    (one.ready refl c.requires.ready).gates Rows

pub ended-requires-clause-taken : goal.ended-requires-clause-taken
ended-requires-clause-taken g c = subst (λ (t : ℕ). CanEnd c.args.owners.now.store.rows t) (sym c.tx-tx.ensures) c.requires.end

pub returns-in-Ok-clause-folds : goal.returns-in-Ok-clause-folds
returns-in-Ok-clause-folds g c =
    let w = c.args.owners.now in
    on-ok c.ended.result c.ended.ensures.rows (λ is moved phase d.
    finish-folds w c.finish.new.self c.ended.new.self c.args.pieces.tx phase moved (c.in-Ok.ensures.folds moved phase d) c.requires.end (is ∙ ap (λ (t : ℕ). with_ended w.store.rows t) c.tx-tx.ensures))

pub returns-in-Ok-clause-does : goal.returns-in-Ok-clause-does
returns-in-Ok-clause-does g c moved phase d =
    let O = g.B.Bench.outside in
    let w = c.args.owners.now in
    let k : Owned = with_manager w c.finish.new.self in
    let u : Owned = with_store k c.ended.new.self in
    let tx = c.args.pieces.tx in
    let part = as_writes (manager_part tx phase moved (kept_in w.manager)) in
    let fault = result_err c.ended.result in
    let one = manager-does w part None (O c.args.bench.now) (O c.finish.new.bench) c.requires.ready c.finish.new.self (c.in-Ok.ensures.does moved phase d) in
    let two = store-does k (ended_write c.tx-tx.result ∷ []) fault (O c.finish.new.bench) (O c.ended.new.bench) (one.ready refl c.requires.ready) c.ended.new.self c.ended.ensures.does in
    finish-does (journals_of w) (journals_of u) tx phase moved (kept_in w.manager) fault (O c.args.bench.now) (O c.ended.new.bench)
    (subst (λ (t : ℕ). Does (journals_of w) (journals_of u) (part ++ as_writes (last t)) fault (O c.args.bench.now) (O c.ended.new.bench)) c.tx-tx.ensures
    (c.calls_follow_one_another.ensures.then (journals_of w) (journals_of k) (journals_of u) part (as_writes (last c.tx-tx.result)) fault c.args.bench.now c.finish.new.bench c.ended.new.bench one two))

pub returns-in-Err-clause-does : goal.returns-in-Err-clause-does
returns-in-Err-clause-does g c moved phase d =
    let O = g.B.Bench.outside in
    let w = c.args.owners.now in
    let k : Owned = with_manager w c.finish.new.self in
    let tx = c.args.pieces.tx in
    let part = as_writes (manager_part tx phase moved (kept_in w.manager)) in
    let one = manager-does w part (Some c.in-Err.fault) (O c.args.bench.now) (O c.finish.new.bench) c.requires.ready c.finish.new.self (c.in-Err.ensures.does moved phase d) in
    finish-does (journals_of w) (journals_of k) tx phase moved (kept_in w.manager) (Some c.in-Err.fault) (O c.args.bench.now) (O c.finish.new.bench)
    (c.calls_follow_one_another.ensures.stop (journals_of w) (journals_of k) part (as_writes (last tx)) c.in-Err.fault c.args.bench.now c.finish.new.bench one)
