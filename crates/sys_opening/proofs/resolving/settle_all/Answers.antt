use Rattle.std.proofs.Common.{◌≡◌, ◌+◌, ◌<◌, ◌≤◌, ℕ, List, length, drop, None, Some, Err, Result, refl, sym, subst, rules}
use Rattle.std.specs.Result.{result_err}
use Rattle.compare_every.proofs.Lists.{none-left}
use Rattle.db_store.specs.Log.{commit_numbered}
use Rattle.dl_areas.specs.Writing.{Does}
use Rattle.fm_manager.specs.Managed.{as_writes}
use Rattle.meaning_areas.specs.Lists.{Written}
use Rattle.meaning_system.specs.Writes.{open_settles}
use Rattle.sys_opening.proofs.Settling.{settling-does, settling-first, settling-halts, settling-more, settling-settles, settling-tries, settling-whole, turn-of}
use Rattle.sys_opening.proofs.Trying.{tries-whole}
use Rattle.sys_opening.specs.Halting.{Halts, HaveSpellings, Tries}
use Rattle.sys_opening.specs.Resolving.{Settles, commit_writes}
use Rattle.sys_opening.specs.declared.fault.OpenFault.{OpenFault}
use Rattle.sys_owners.specs.Owned.{folds_in, journals_of}
use Rattle.sys_opening.proofs.resolving.settle_all.Goals as goal

pub loop-index-init : goal.loop-index-init
loop-index-init g c = settling-first c.args.owners.now (g.B.Bench.outside c.args.bench.now) (c.calls_follow_one_another.ensures.none (journals_of c.args.owners.now) c.args.bench.now)

pub settle_commit-requires-clause-ready : goal.settle_commit-requires-clause-ready
settle_commit-requires-clause-ready g c = c.loop-index.invariant.does.ready refl c.requires.ready

pub settle_commit-requires-clause-stand : goal.settle_commit-requires-clause-stand
settle_commit-requires-clause-stand g c = let s = c.requires.stand in (s.0, c.loop-index.invariant.settles.stands s.0 s.1, s.2)

pub loop-index-preserved : goal.loop-index-preserved
loop-index-preserved g c =
    let O = g.B.Bench.outside in
    let w = c.args.owners.now in
    let v = c.loop-index.owners in
    let u = c.settle_commit.new.owners in
    let i = c.loop-index.index in
    let s = c.loop-index.invariant in
    let all = (folds_in w).rows.commits in
    let t = turn-of (folds_in w) (folds_in v) s.settles.commits i (subst (λ (n : ℕ). i < n) c.commits-index-end.ensures c.loop-index-test.true) in
    settling-more w v (drop i all) (O c.args.bench.now) (O c.loop-index.bench) s t.0 (drop (i + 1) all) t.1 u (O c.settle_commit.new.bench)
    (λ ws vs fault. c.calls_follow_one_another.ensures.then (journals_of w) (journals_of v) (journals_of u) ws vs fault c.args.bench.now c.loop-index.bench c.settle_commit.new.bench)
    (subst (λ (xs : List Written). Settles (folds_in v) (folds_in u) xs) t.2 c.in_ok-settle_commit.ensures.settles)
    c.in_ok-settle_commit.ensures.drawn
    (subst (λ (xs : List Written). HaveSpellings xs) t.2 (tries-whole (journals_of v) (journals_of u) (O c.loop-index.bench) (O c.settle_commit.new.bench) (commit_writes (folds_in v) (commit_numbered (folds_in v).rows.commits (i + 1))) c.in_ok-settle_commit.ensures.tries))
    (subst (λ (xs : List Written). Does (journals_of v) (journals_of u) (as_writes xs) None (O c.loop-index.bench) (O c.settle_commit.new.bench)) t.2 c.in_ok-settle_commit.ensures.halts)

pub returns-in_err-settle_commit-clause-halts : goal.returns-in_err-settle_commit-clause-halts
returns-in_err-settle_commit-clause-halts g c =
    let O = g.B.Bench.outside in
    let w = c.args.owners.now in
    let v = c.loop-index.owners in
    let u = c.settle_commit.new.owners in
    let i = c.loop-index.index in
    let s = c.loop-index.invariant in
    let all = (folds_in w).rows.commits in
    let t = turn-of (folds_in w) (folds_in v) s.settles.commits i (subst (λ (n : ℕ). i < n) c.commits-index-end.ensures c.loop-index-test.true) in
    let is : c.from_residual.result ≡ Err c.in_err-settle_commit.field-0.0 = search rules in
    subst (λ (r : Result Unit OpenFault). Halts (journals_of w) (journals_of u) (as_writes (open_settles (folds_in w) all)) (result_err r) (O c.args.bench.now) (O c.settle_commit.new.bench)) (sym is)
    (settling-halts w v (drop i all) (O c.args.bench.now) (O c.loop-index.bench) s t.0 (drop (i + 1) all) t.1 u (O c.settle_commit.new.bench)
    (λ ws vs fault. c.calls_follow_one_another.ensures.then (journals_of w) (journals_of v) (journals_of u) ws vs fault c.args.bench.now c.loop-index.bench c.settle_commit.new.bench)
    (λ ws vs fault. c.calls_follow_one_another.ensures.stop (journals_of w) (journals_of u) ws vs fault c.args.bench.now c.settle_commit.new.bench)
    c.in_err-settle_commit.field-0.0
    (subst (λ (xs : List Written). Halts (journals_of v) (journals_of u) (as_writes xs) (Some c.in_err-settle_commit.field-0.0) (O c.loop-index.bench) (O c.settle_commit.new.bench)) t.2 c.in_err-settle_commit.ensures.halts))

pub returns-in_err-settle_commit-clause-tries : goal.returns-in_err-settle_commit-clause-tries
returns-in_err-settle_commit-clause-tries g c =
    let O = g.B.Bench.outside in
    let w = c.args.owners.now in
    let v = c.loop-index.owners in
    let u = c.settle_commit.new.owners in
    let i = c.loop-index.index in
    let s = c.loop-index.invariant in
    let all = (folds_in w).rows.commits in
    let t = turn-of (folds_in w) (folds_in v) s.settles.commits i (subst (λ (n : ℕ). i < n) c.commits-index-end.ensures c.loop-index-test.true) in
    let is : c.from_residual.result ≡ Err c.in_err-settle_commit.field-0.0 = search rules in
    subst (λ (r : Result Unit OpenFault). Tries (journals_of w) (journals_of u) (open_settles (folds_in w) all) (result_err r) (O c.args.bench.now) (O c.settle_commit.new.bench)) (sym is)
    (settling-tries w v (drop i all) (O c.args.bench.now) (O c.loop-index.bench) s t.0 (drop (i + 1) all) t.1 u (O c.settle_commit.new.bench)
    (λ ws vs fault. c.calls_follow_one_another.ensures.then (journals_of w) (journals_of v) (journals_of u) ws vs fault c.args.bench.now c.loop-index.bench c.settle_commit.new.bench)
    c.in_err-settle_commit.field-0.0
    (subst (λ (xs : List Written). Tries (journals_of v) (journals_of u) xs (Some c.in_err-settle_commit.field-0.0) (O c.loop-index.bench) (O c.settle_commit.new.bench)) t.2 c.in_err-settle_commit.ensures.tries))

pub returns-clause-tries : goal.returns-clause-tries
returns-clause-tries g c =
    let O = g.B.Bench.outside in
    let w = c.args.owners.now in
    let all = (folds_in w).rows.commits in
    let i = c.loop-index.index in
    let past : length all ≤ i = subst (λ (n : ℕ). n ≤ i) c.commits-index-end.ensures c.loop-index-test.false in
    settling-whole w c.loop-index.owners (drop i all) (O c.args.bench.now) (O c.loop-index.bench) c.loop-index.invariant (none-left all i past)

pub returns-clause-settles : goal.returns-clause-settles
returns-clause-settles g c =
    let O = g.B.Bench.outside in
    let w = c.args.owners.now in
    let all = (folds_in w).rows.commits in
    let i = c.loop-index.index in
    let past : length all ≤ i = subst (λ (n : ℕ). n ≤ i) c.commits-index-end.ensures c.loop-index-test.false in
    settling-settles w c.loop-index.owners (drop i all) (O c.args.bench.now) (O c.loop-index.bench) c.loop-index.invariant (none-left all i past)

pub returns-clause-halts : goal.returns-clause-halts
returns-clause-halts g c =
    let O = g.B.Bench.outside in
    let w = c.args.owners.now in
    let all = (folds_in w).rows.commits in
    let i = c.loop-index.index in
    let past : length all ≤ i = subst (λ (n : ℕ). n ≤ i) c.commits-index-end.ensures c.loop-index-test.false in
    settling-does w c.loop-index.owners (drop i all) (O c.args.bench.now) (O c.loop-index.bench) c.loop-index.invariant (none-left all i past)
