use Rattle.std.proofs.Common.{[], ◌∷◌, None, Some, refl, arith}
use Rattle.db_store.specs.Store.{commit_write}
use Rattle.dl_base.specs.declared.area.Area.TheVariants.{Rows}
use Rattle.fm_manager.specs.Managed.{as_writes}
use Rattle.meaning_areas.specs.Stands.{kept_of}
use Rattle.meaning_system.specs.Writes.{whole_finish}
use Rattle.sys_owners.proofs.Placing.{store-does, with_store}
use Rattle.sys_owners.specs.Owned.{folds_in, journals_of}
use Rattle.sys_records.proofs.PuttingBack.{commit-leads, may-settle}
use Rattle.sys_records.specs.Restoring.{moved_in}
use Rattle.std.proofs.lemmas.Grind.{common_steps}
use Rattle.sys_records.proofs.restoring.commit_restore.Goals as goal

pub commit-requires-clause-ready : goal.commit-requires-clause-ready
commit-requires-clause-ready g c = c.requires.ready.gates Rows

pub commit-requires-clause-room : goal.commit-requires-clause-room
commit-requires-clause-room g c = c.requires.can.room

pub commit-requires-clause-taken : goal.commit-requires-clause-taken
commit-requires-clause-taken g c = c.requires.can.commit

pub settle-requires-clause-ready : goal.settle-requires-clause-ready
settle-requires-clause-ready g c =
    let O = g.B.Bench.outside in
    let w = c.args.owners.now in
    let r = c.args.restoration in
    (store-does w (commit_write w.store.rows r.made ∷ []) None (O c.args.bench.now) (O c.commit.new.bench) c.requires.ready c.commit.new.self c.in-Ok.ensures.does).ready refl c.requires.ready

pub settle-requires-clause-can : goal.settle-requires-clause-can
settle-requires-clause-can g c =
    let r = c.args.restoration in
    (r.made.tx, moved_in r, may-settle c.args.owners.now r c.requires.can c.commit.new.self c.in-Ok.ensures.rows)

pub returns-in-Ok-settle-clause-folds : goal.returns-in-Ok-settle-clause-folds
returns-in-Ok-settle-clause-folds g c =
    let w = c.args.owners.now in
    let r = c.args.restoration in
    let d = c.commit.new.self in
    commit-leads w r c.requires.can d c.in-Ok.ensures.rows c.settle.new.owners
    (c.in-Ok-settle.ensures.folds r.made.tx (moved_in r) (may-settle w r c.requires.can d c.in-Ok.ensures.rows))

pub returns-in-Ok-settle-clause-copies : goal.returns-in-Ok-settle-clause-copies
returns-in-Ok-settle-clause-copies g c =
    let r = c.args.restoration in
    c.in-Ok-settle.ensures.copies r.made.tx (moved_in r) (may-settle c.args.owners.now r c.requires.can c.commit.new.self c.in-Ok.ensures.rows)

pub returns-in-Ok-settle-clause-does : goal.returns-in-Ok-settle-clause-does
returns-in-Ok-settle-clause-does g c =
    let O = g.B.Bench.outside in
    let w = c.args.owners.now in
    let r = c.args.restoration in
    let d = c.commit.new.self in
    let k = with_store w d in
    let one = store-does w (commit_write w.store.rows r.made ∷ []) None (O c.args.bench.now) (O c.commit.new.bench) c.requires.ready d c.in-Ok.ensures.does in
    let two = c.in-Ok-settle.ensures.does r.made.tx (moved_in r) (may-settle w r c.requires.can d c.in-Ok.ensures.rows) in
    c.calls_follow_one_another.ensures.then (journals_of w) (journals_of k) (journals_of c.settle.new.owners) (commit_write w.store.rows r.made ∷ []) (as_writes (whole_finish r.made.tx (moved_in r) (kept_of (folds_in k)))) None
    c.args.bench.now c.commit.new.bench c.settle.new.bench one two

pub returns-in-Err-settle-clause-does : goal.returns-in-Err-settle-clause-does
returns-in-Err-settle-clause-does g c =
    let O = g.B.Bench.outside in
    let w = c.args.owners.now in
    let r = c.args.restoration in
    let d = c.commit.new.self in
    let k = with_store w d in
    let one = store-does w (commit_write w.store.rows r.made ∷ []) None (O c.args.bench.now) (O c.commit.new.bench) c.requires.ready d c.in-Ok.ensures.does in
    let two = c.in-Err-settle.ensures.does r.made.tx (moved_in r) (may-settle w r c.requires.can d c.in-Ok.ensures.rows) in
    c.calls_follow_one_another.ensures.then (journals_of w) (journals_of k) (journals_of c.settle.new.owners) (commit_write w.store.rows r.made ∷ []) (as_writes (whole_finish r.made.tx (moved_in r) (kept_of (folds_in k)))) (Some c.in-Err-settle.fault)
    c.args.bench.now c.commit.new.bench c.settle.new.bench one two

pub returns-in-Err-clause-does : goal.returns-in-Err-clause-does
returns-in-Err-clause-does g c =
    let O = g.B.Bench.outside in
    let w = c.args.owners.now in
    let r = c.args.restoration in
    let k = with_store w c.commit.new.self in
    let one = store-does w (commit_write w.store.rows r.made ∷ []) (Some c.in-Err.fault) (O c.args.bench.now) (O c.commit.new.bench) c.requires.ready c.commit.new.self c.in-Err.ensures.does in
    c.calls_follow_one_another.ensures.stop (journals_of w) (journals_of k) (commit_write w.store.rows r.made ∷ []) (as_writes (whole_finish r.made.tx (moved_in r) (kept_of (folds_in w)))) c.in-Err.fault
    c.args.bench.now c.commit.new.bench one

pub returns-in-Ok-settle-clause-commits : goal.returns-in-Ok-settle-clause-commits
returns-in-Ok-settle-clause-commits g c = grind (arith, common_steps)

pub returns-in-Ok-settle-clause-drawn : goal.returns-in-Ok-settle-clause-drawn
returns-in-Ok-settle-clause-drawn g c = grind (arith, common_steps)

pub returns-in-Ok-settle-clause-answer : goal.returns-in-Ok-settle-clause-answer
returns-in-Ok-settle-clause-answer g c = grind (arith, common_steps)
