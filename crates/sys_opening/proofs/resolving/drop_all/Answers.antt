use Rattle.std.proofs.Common.{◌≡◌, ℕ, List, [], Err, Result, refl, sym, ◌∙◌, ap, subst, is_some, rules}
use Rattle.std.specs.FinMap as maps
use Rattle.std.specs.List.{flat_map}
use Rattle.std.specs.Result.{result_err}
use Rattle.std.specs.Vec.Iter.{into_iter_items}
use Rattle.fm_branch.specs.Linked.{Linked}
use Rattle.fm_branch.specs.Table.{in_doubt}
use Rattle.fm_manager.specs.Managed.{as_writes}
use Rattle.meaning_system.specs.Writes.{open_drop}
use Rattle.sys_opening.proofs.Dropping.{Dropping, dropping-does, dropping-drawn, dropping-first, dropping-halts, dropping-leads, dropping-more, dropping-taken, dropping-tries, dropping-whole, no-items}
use Rattle.sys_opening.proofs.Halted.{halts-before}
use Rattle.sys_opening.proofs.Trying.{tries-none}
use Rattle.sys_opening.specs.Faults.{open_fault_of}
use Rattle.sys_opening.specs.Halting.{Halts, Tries}
use Rattle.sys_opening.specs.declared.fault.OpenFault.{OpenFault}
use Rattle.sys_opening.specs.declared.fault.OpenFault.TheVariants as faults
use Rattle.sys_owners.specs.Owned.{folds_in, journals_of}
use Rattle.sys_opening.proofs.resolving.drop_all.Goals as goal

pub loop-tx-init : goal.loop-tx-init
loop-tx-init g c =
    let O = g.B.Bench.outside in
    let w = c.args.owners.now in
    subst (λ (ts : List ℕ). Dropping w w ts (O c.args.bench.now) (O c.args.bench.now)) (sym (c.into_iter-tx-iterator.ensures.into_iter_gives.0 ∙ c.into_vec-tx-items.ensures ∙ c.in_ok-in_doubt.ensures ∙ ap (λ (l : Linked). in_doubt l.links.table) c.branches.ensures))
    (dropping-first w (O c.args.bench.now) (c.calls_follow_one_another.ensures.none (journals_of w) c.args.bench.now))

pub drop_one-requires-clause-ready : goal.drop_one-requires-clause-ready
drop_one-requires-clause-ready g c = c.loop-tx.invariant.does.ready refl c.requires.ready

pub drop_one-requires-clause-taken : goal.drop_one-requires-clause-taken
drop_one-requires-clause-taken g c =
    let O = g.B.Bench.outside in
    let w = c.args.owners.now in
    let s = c.requires.stand in
    dropping-taken w c.loop-tx.owners (into_iter_items c.loop-tx.tx-iterator) (O c.args.bench.now) (O c.loop-tx.bench) c.loop-tx.invariant c.in-Some.tx (into_iter_items c.next.new.self) c.in-Some.ensures.steps.0
    (ap is_some (c.branches_without_a_commit_are_aborted.ensures.leads (folds_in w) s.0 s.1).1)

pub loop-tx-preserved : goal.loop-tx-preserved
loop-tx-preserved g c =
    let O = g.B.Bench.outside in
    let w = c.args.owners.now in
    let v = c.loop-tx.owners in
    let u = c.drop_one.new.owners in
    dropping-more w v (into_iter_items c.loop-tx.tx-iterator) (O c.args.bench.now) (O c.loop-tx.bench) c.loop-tx.invariant c.in-Some.tx (into_iter_items c.next.new.self) c.in-Some.ensures.steps.0 u (O c.drop_one.new.bench)
    (λ ws vs fault. c.calls_follow_one_another.ensures.then (journals_of w) (journals_of v) (journals_of u) ws vs fault c.args.bench.now c.loop-tx.bench c.drop_one.new.bench)
    c.in_ok-drop_one.ensures.folds c.in_ok-drop_one.ensures.store c.in_ok-drop_one.ensures.spelled c.in_ok-drop_one.ensures.does

pub returns-in_err-drop_one-clause-halts : goal.returns-in_err-drop_one-clause-halts
returns-in_err-drop_one-clause-halts g c =
    let O = g.B.Bench.outside in
    let w = c.args.owners.now in
    let v = c.loop-tx.owners in
    let u = c.drop_one.new.owners in
    let fault = c.in_err-drop_one.field-0.0 in
    let is : c.from_residual-in_err-drop_one.result ≡ Err (open_fault_of fault) = search rules in
    subst (λ (r : Result Unit OpenFault). Halts (journals_of w) (journals_of u) (as_writes (flat_map (open_drop (folds_in w)) (maps.entries (folds_in w).links.table))) (result_err r) (O c.args.bench.now) (O c.drop_one.new.bench)) (sym is)
    (dropping-halts w v (into_iter_items c.loop-tx.tx-iterator) (O c.args.bench.now) (O c.loop-tx.bench) c.loop-tx.invariant c.in-Some.tx (into_iter_items c.next.new.self) c.in-Some.ensures.steps.0 u (O c.drop_one.new.bench)
    (λ ws vs f. c.calls_follow_one_another.ensures.then (journals_of w) (journals_of v) (journals_of u) ws vs f c.args.bench.now c.loop-tx.bench c.drop_one.new.bench)
    (λ ws vs f. c.calls_follow_one_another.ensures.stop (journals_of w) (journals_of u) ws vs f c.args.bench.now c.drop_one.new.bench)
    fault c.in_err-drop_one.ensures.does)

pub returns-in_err-drop_one-clause-tries : goal.returns-in_err-drop_one-clause-tries
returns-in_err-drop_one-clause-tries g c =
    let O = g.B.Bench.outside in
    let w = c.args.owners.now in
    let v = c.loop-tx.owners in
    let u = c.drop_one.new.owners in
    let fault = c.in_err-drop_one.field-0.0 in
    let is : c.from_residual-in_err-drop_one.result ≡ Err (open_fault_of fault) = search rules in
    subst (λ (r : Result Unit OpenFault). Tries (journals_of w) (journals_of u) (flat_map (open_drop (folds_in w)) (maps.entries (folds_in w).links.table)) (result_err r) (O c.args.bench.now) (O c.drop_one.new.bench)) (sym is)
    (dropping-tries w v (into_iter_items c.loop-tx.tx-iterator) (O c.args.bench.now) (O c.loop-tx.bench) c.loop-tx.invariant c.in-Some.tx (into_iter_items c.next.new.self) c.in-Some.ensures.steps.0 u (O c.drop_one.new.bench)
    (λ ws vs f. c.calls_follow_one_another.ensures.then (journals_of w) (journals_of v) (journals_of u) ws vs f c.args.bench.now c.loop-tx.bench c.drop_one.new.bench)
    fault c.in_err-drop_one.ensures.spelled c.in_err-drop_one.ensures.does)

pub returns-in_err-in_doubt-clause-tries : goal.returns-in_err-in_doubt-clause-tries
returns-in_err-in_doubt-clause-tries g c =
    let O = g.B.Bench.outside in
    let w = c.args.owners.now in
    let xs = flat_map (open_drop (folds_in w)) (maps.entries (folds_in w).links.table) in
    let is : c.from_residual.result ≡ Err faults.Memory = search rules in
    subst (λ (r : Result Unit OpenFault). Tries (journals_of w) (journals_of w) xs (result_err r) (O c.args.bench.now) (O c.args.bench.now)) (sym is)
    (tries-none (journals_of w) (journals_of w) (O c.args.bench.now) (O c.args.bench.now) xs faults.Memory (c.calls_follow_one_another.ensures.none (journals_of w) c.args.bench.now))

pub returns-clause-tries : goal.returns-clause-tries
returns-clause-tries g c =
    let O = g.B.Bench.outside in
    let none : into_iter_items c.loop-tx.tx-iterator ≡ [] = no-items (into_iter_items c.loop-tx.tx-iterator) (sym c.loop-tx.tx-iterator.rest.ok.0 ∙ c.in-None.ensures.steps.0) in
    dropping-whole c.args.owners.now c.loop-tx.owners (into_iter_items c.loop-tx.tx-iterator) (O c.args.bench.now) (O c.loop-tx.bench) c.loop-tx.invariant none

pub returns-in_err-in_doubt-clause-halts : goal.returns-in_err-in_doubt-clause-halts
returns-in_err-in_doubt-clause-halts g c =
    let O = g.B.Bench.outside in
    let w = c.args.owners.now in
    let ws = as_writes (flat_map (open_drop (folds_in w)) (maps.entries (folds_in w).links.table)) in
    let is : c.from_residual.result ≡ Err faults.Memory = search rules in
    subst (λ (r : Result Unit OpenFault). Halts (journals_of w) (journals_of w) ws (result_err r) (O c.args.bench.now) (O c.args.bench.now)) (sym is)
    (halts-before (journals_of w) (journals_of w) ws (O c.args.bench.now) (O c.args.bench.now) (c.calls_follow_one_another.ensures.none (journals_of w) c.args.bench.now))

pub returns-clause-folds : goal.returns-clause-folds
returns-clause-folds g c =
    let O = g.B.Bench.outside in
    let none : into_iter_items c.loop-tx.tx-iterator ≡ [] = no-items (into_iter_items c.loop-tx.tx-iterator) (sym c.loop-tx.tx-iterator.rest.ok.0 ∙ c.in-None.ensures.steps.0) in
    dropping-leads c.args.owners.now c.loop-tx.owners (into_iter_items c.loop-tx.tx-iterator) (O c.args.bench.now) (O c.loop-tx.bench) c.loop-tx.invariant none

pub returns-clause-drawn : goal.returns-clause-drawn
returns-clause-drawn g c =
    let O = g.B.Bench.outside in
    let none : into_iter_items c.loop-tx.tx-iterator ≡ [] = no-items (into_iter_items c.loop-tx.tx-iterator) (sym c.loop-tx.tx-iterator.rest.ok.0 ∙ c.in-None.ensures.steps.0) in
    dropping-drawn c.args.owners.now c.loop-tx.owners (into_iter_items c.loop-tx.tx-iterator) (O c.args.bench.now) (O c.loop-tx.bench) c.loop-tx.invariant none

pub returns-clause-halts : goal.returns-clause-halts
returns-clause-halts g c =
    let O = g.B.Bench.outside in
    let none : into_iter_items c.loop-tx.tx-iterator ≡ [] = no-items (into_iter_items c.loop-tx.tx-iterator) (sym c.loop-tx.tx-iterator.rest.ok.0 ∙ c.in-None.ensures.steps.0) in
    dropping-does c.args.owners.now c.loop-tx.owners (into_iter_items c.loop-tx.tx-iterator) (O c.args.bench.now) (O c.loop-tx.bench) c.loop-tx.invariant none
