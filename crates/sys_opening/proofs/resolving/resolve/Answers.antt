use Rattle.std.proofs.Common.{◌≡◌, ◌++◌, List, Some, Err, Result, refl, sym, ◌∙◌, ap, subst, rules}
use Rattle.std.specs.FinMap as maps
use Rattle.std.specs.List.{flat_map}
use Rattle.std.specs.Result.{result_err}
use Rattle.fm_manager.specs.Managed.{as_writes}
use Rattle.meaning_areas.specs.Lists.{Written, folds_on}
use Rattle.meaning_system.specs.Writes.{open_drop, open_settles}
use Rattle.sys_opening.proofs.Halted.{halts-before-others, halts-behind}
use Rattle.sys_opening.proofs.Trying.{tries-behind, tries-more, tries-whole}
use Rattle.sys_opening.specs.Halting.{Halts, Tries}
use Rattle.sys_opening.specs.declared.fault.OpenFault.{OpenFault}
use Rattle.sys_owners.proofs.InARow.{folds-then}
use Rattle.sys_owners.proofs.Placing.{on-ok}
use Rattle.sys_owners.specs.Owned.{folds_in, journals_of}
use Rattle.sys_opening.proofs.resolving.resolve.Goals as goal

pub drop_all-requires-clause-ready : goal.drop_all-requires-clause-ready
drop_all-requires-clause-ready g c = c.in_ok-settle_all.ensures.halts.ready refl c.requires.ready

pub drop_all-requires-clause-stand : goal.drop_all-requires-clause-stand
drop_all-requires-clause-stand g c = let s = c.requires.stand in (s.0, c.in_ok-settle_all.ensures.settles.stands s.0 s.1)

pub returns-clause-folds : goal.returns-clause-folds
returns-clause-folds g c =
    let f = folds_in c.args.owners.now in
    let m = folds_in c.settle_all.new.owners in
    let s = c.in_ok-settle_all.ensures.settles in
    let xs = open_settles f f.rows.commits in
    on-ok c.drop_all.result c.drop_all.ensures.folds (λ leads.
    ap (λ (ys : List Written). folds_on (Some f) (xs ++ ys)) (sym s.drops) ∙ folds-then f m xs (flat_map (open_drop m) (maps.entries m.links.table)) s.leads ∙ leads)

pub returns-clause-halts : goal.returns-clause-halts
returns-clause-halts g c =
    let O = g.B.Bench.outside in
    let w = c.args.owners.now in
    let v = c.settle_all.new.owners in
    let u = c.drop_all.new.owners in
    let f = folds_in w in
    let m = folds_in v in
    let s = c.in_ok-settle_all.ensures.settles in
    let xs = open_settles f f.rows.commits in
    let ys = flat_map (open_drop m) (maps.entries m.links.table) in
    halts-behind (journals_of w) (journals_of v) (journals_of u) (O c.args.bench.now) (O c.settle_all.new.bench) (O c.drop_all.new.bench)
    (λ ws vs fault. c.calls_follow_one_another.ensures.then (journals_of w) (journals_of v) (journals_of u) ws vs fault c.args.bench.now c.settle_all.new.bench c.drop_all.new.bench)
    xs ys (xs ++ flat_map (open_drop f) (maps.entries f.links.table)) (ap (λ (zs : List Written). xs ++ zs) (sym s.drops)) (result_err c.drop_all.result) c.in_ok-settle_all.ensures.halts c.drop_all.ensures.halts

pub returns-in_err-settle_all-clause-halts : goal.returns-in_err-settle_all-clause-halts
returns-in_err-settle_all-clause-halts g c =
    let O = g.B.Bench.outside in
    let w = c.args.owners.now in
    let u = c.settle_all.new.owners in
    let f = folds_in w in
    let fault = c.in_err-settle_all.field-0.0 in
    let is : c.from_residual.result ≡ Err fault = search rules in
    subst (λ (r : Result Unit OpenFault). Halts (journals_of w) (journals_of u) (as_writes (open_settles f f.rows.commits ++ flat_map (open_drop f) (maps.entries f.links.table))) (result_err r) (O c.args.bench.now) (O c.settle_all.new.bench)) (sym is)
    (halts-before-others (journals_of w) (journals_of u) (O c.args.bench.now) (O c.settle_all.new.bench)
    (λ ws vs e. c.calls_follow_one_another.ensures.stop (journals_of w) (journals_of u) ws vs e c.args.bench.now c.settle_all.new.bench)
    (open_settles f f.rows.commits) (flat_map (open_drop f) (maps.entries f.links.table)) fault c.in_err-settle_all.ensures.halts)

pub returns-clause-tries : goal.returns-clause-tries
returns-clause-tries g c =
    let O = g.B.Bench.outside in
    let w = c.args.owners.now in
    let v = c.settle_all.new.owners in
    let u = c.drop_all.new.owners in
    let f = folds_in w in
    let m = folds_in v in
    let s = c.in_ok-settle_all.ensures.settles in
    let xs = open_settles f f.rows.commits in
    let ys = flat_map (open_drop m) (maps.entries m.links.table) in
    tries-behind (journals_of w) (journals_of v) (journals_of u) (O c.args.bench.now) (O c.settle_all.new.bench) (O c.drop_all.new.bench)
    (λ ws vs fault. c.calls_follow_one_another.ensures.then (journals_of w) (journals_of v) (journals_of u) ws vs fault c.args.bench.now c.settle_all.new.bench c.drop_all.new.bench)
    xs ys (xs ++ flat_map (open_drop f) (maps.entries f.links.table)) (ap (λ (zs : List Written). xs ++ zs) (sym s.drops)) (result_err c.drop_all.result)
    (tries-whole (journals_of w) (journals_of v) (O c.args.bench.now) (O c.settle_all.new.bench) xs c.in_ok-settle_all.ensures.tries)
    c.in_ok-settle_all.ensures.halts c.drop_all.ensures.tries

pub returns-in_err-settle_all-clause-tries : goal.returns-in_err-settle_all-clause-tries
returns-in_err-settle_all-clause-tries g c =
    let O = g.B.Bench.outside in
    let w = c.args.owners.now in
    let u = c.settle_all.new.owners in
    let f = folds_in w in
    let fault = c.in_err-settle_all.field-0.0 in
    let is : c.from_residual.result ≡ Err fault = search rules in
    subst (λ (r : Result Unit OpenFault). Tries (journals_of w) (journals_of u) (open_settles f f.rows.commits ++ flat_map (open_drop f) (maps.entries f.links.table)) (result_err r) (O c.args.bench.now) (O c.settle_all.new.bench)) (sym is)
    (tries-more (journals_of w) (journals_of u) (O c.args.bench.now) (O c.settle_all.new.bench) (open_settles f f.rows.commits) (flat_map (open_drop f) (maps.entries f.links.table)) fault c.in_err-settle_all.ensures.tries)
