use Rattle.std.proofs.Common.{◌≡◌, ℕ, List, None, Some, is_some, true, sym, subst, arith}
use Rattle.dl_areas.proofs.Ending.{ends-written}
use Rattle.dl_areas.specs.Lists.{Write}
use Rattle.dl_areas.specs.Writing.{Does, Ends}
use Rattle.dl_base.specs.declared.fault.StepFault.{StepFault}
use Rattle.fm_manager.specs.Managed.{as_writes}
use Rattle.meaning_areas.specs.Lists.{folds_on}
use Rattle.meaning_system.specs.Writes.{prepared}
use Rattle.sys_owners.proofs.InARow.{writes-append}
use Rattle.sys_owners.specs.Owned.{folds_in, journals_of}
use Rattle.sys_records.proofs.PuttingBack.{all-lead-drawn, all-writes, at-number, can-commit, drawn-does, ends-stop, first-taken}
use Rattle.sys_records.specs.Restoring.{commit_part, moved_in, restore_part}
use Rattle.std.proofs.lemmas.Grind.{common_steps}
use Rattle.sys_records.proofs.restoring.write_restore.Goals as goal

pub write_prepared-requires-clause-taken : goal.write_prepared-requires-clause-taken
write_prepared-requires-clause-taken g c =
    let w = c.args.owners.now in
    let r = c.args.restoration in
    subst (λ (n : ℕ). is_some (folds_on (Some (folds_in w)) (prepared n (moved_in r))) ≡ true) (sym c.tx-tx.ensures) (first-taken w r c.requires.can)

-- its Prepared is there, as that of the number of its commit
pub commit_restore-requires-clause-can : goal.commit_restore-requires-clause-can
commit_restore-requires-clause-can g c =
    let w = c.args.owners.now in
    let r = c.args.restoration in
    let v = c.write_prepared.new.owners in
    can-commit w r c.requires.can v (at-number w v r c.tx-tx.result c.tx-tx.ensures c.in-Ok.ensures.folds) c.in-Ok.ensures.same

pub returns-in-Ok-commit_restore-clause-folds : goal.returns-in-Ok-commit_restore-clause-folds
returns-in-Ok-commit_restore-clause-folds g c =
    let w = c.args.owners.now in
    let r = c.args.restoration in
    let v = c.write_prepared.new.owners in
    let u = c.commit_restore.new.owners in
    let leads = at-number w v r c.tx-tx.result c.tx-tx.ensures c.in-Ok.ensures.folds in
    all-lead-drawn w r c.requires.can v leads c.in-Ok.ensures.same u c.count_drawn.new.owners c.count_drawn.ensures c.in-Ok-commit_restore.ensures.folds

pub returns-in-Ok-commit_restore-clause-ends : goal.returns-in-Ok-commit_restore-clause-ends
returns-in-Ok-commit_restore-clause-ends g c =
    let O = g.B.Bench.outside in
    let w = c.args.owners.now in
    let r = c.args.restoration in
    let v = c.write_prepared.new.owners in
    let u = c.commit_restore.new.owners in
    let leads = at-number w v r c.tx-tx.result c.tx-tx.ensures c.in-Ok.ensures.folds in
    let first = as_writes (prepared r.made.tx (moved_in r)) in
    let rest = as_writes (commit_part (folds_in v) r.made (moved_in r)) in
    let one = subst (λ (n : ℕ). Does (journals_of w) (journals_of v) (as_writes (prepared n (moved_in r))) None (O c.args.bench.now) (O c.write_prepared.new.bench)) c.tx-tx.ensures c.in-Ok.ensures.ends in
    drawn-does w u c.count_drawn.new.owners (as_writes (restore_part (folds_in w) r.made (moved_in r))) (O c.args.bench.now) (O c.commit_restore.new.bench) c.count_drawn.ensures
    (subst (λ (ws : List Write). Does (journals_of w) (journals_of u) ws None (O c.args.bench.now) (O c.commit_restore.new.bench)) (all-writes w r c.requires.can v leads c.in-Ok.ensures.same)
    (c.calls_follow_one_another.ensures.then (journals_of w) (journals_of v) (journals_of u) first rest None c.args.bench.now c.write_prepared.new.bench c.commit_restore.new.bench one c.in-Ok-commit_restore.ensures.does))

pub returns-in-Err-commit_restore-clause-ends : goal.returns-in-Err-commit_restore-clause-ends
returns-in-Err-commit_restore-clause-ends g c =
    let O = g.B.Bench.outside in
    let w = c.args.owners.now in
    let r = c.args.restoration in
    let v = c.write_prepared.new.owners in
    let u = c.commit_restore.new.owners in
    let leads = at-number w v r c.tx-tx.result c.tx-tx.ensures c.in-Ok.ensures.folds in
    let first = as_writes (prepared r.made.tx (moved_in r)) in
    let rest = as_writes (commit_part (folds_in v) r.made (moved_in r)) in
    let all = as_writes (restore_part (folds_in w) r.made (moved_in r)) in
    let one = subst (λ (n : ℕ). Does (journals_of w) (journals_of v) (as_writes (prepared n (moved_in r))) None (O c.args.bench.now) (O c.write_prepared.new.bench)) c.tx-tx.ensures c.in-Ok.ensures.ends in
    subst (λ (f : StepFault). Ends (journals_of w) (journals_of u) all (Some f) (O c.args.bench.now) (O c.commit_restore.new.bench)) (sym c.from.ensures)
    (ends-written (journals_of w) (journals_of u) all (Some c.in-Err-commit_restore.fault) (O c.args.bench.now) (O c.commit_restore.new.bench)
    (subst (λ (ws : List Write). Does (journals_of w) (journals_of u) ws (Some c.in-Err-commit_restore.fault) (O c.args.bench.now) (O c.commit_restore.new.bench)) (all-writes w r c.requires.can v leads c.in-Ok.ensures.same)
    (c.calls_follow_one_another.ensures.then (journals_of w) (journals_of v) (journals_of u) first rest (Some c.in-Err-commit_restore.fault) c.args.bench.now c.write_prepared.new.bench c.commit_restore.new.bench one c.in-Err-commit_restore.ensures.does)))

-- its Prepared is not
pub returns-in-Err-clause-ends : goal.returns-in-Err-clause-ends
returns-in-Err-clause-ends g c =
    let O = g.B.Bench.outside in
    let w = c.args.owners.now in
    let r = c.args.restoration in
    let v = c.write_prepared.new.owners in
    let first = as_writes (prepared r.made.tx (moved_in r)) in
    let rest = as_writes (commit_part (folds_in w) r.made (moved_in r)) in
    let one = subst (λ (n : ℕ). Ends (journals_of w) (journals_of v) (as_writes (prepared n (moved_in r))) (Some c.in-Err.fault) (O c.args.bench.now) (O c.write_prepared.new.bench)) c.tx-tx.ensures c.in-Err.ensures.ends in
    subst (λ (ws : List Write). Ends (journals_of w) (journals_of v) ws (Some c.in-Err.fault) (O c.args.bench.now) (O c.write_prepared.new.bench)) (sym (writes-append (prepared r.made.tx (moved_in r)) (commit_part (folds_in w) r.made (moved_in r))))
    (ends-stop (journals_of w) (journals_of v) first rest (O c.args.bench.now) (O c.write_prepared.new.bench)
    (λ fault. c.calls_follow_one_another.ensures.stop (journals_of w) (journals_of v) first rest fault c.args.bench.now c.write_prepared.new.bench) c.in-Err.fault one)

pub returns-in-Ok-commit_restore-clause-commits : goal.returns-in-Ok-commit_restore-clause-commits
returns-in-Ok-commit_restore-clause-commits g c = grind (arith, common_steps)

pub returns-in-Ok-commit_restore-clause-memory : goal.returns-in-Ok-commit_restore-clause-memory
returns-in-Ok-commit_restore-clause-memory g c = grind (arith, common_steps)

pub returns-in-Ok-commit_restore-clause-copies : goal.returns-in-Ok-commit_restore-clause-copies
returns-in-Ok-commit_restore-clause-copies g c = grind (arith, common_steps)

pub returns-in-Ok-commit_restore-clause-drawn : goal.returns-in-Ok-commit_restore-clause-drawn
returns-in-Ok-commit_restore-clause-drawn g c = grind (arith, common_steps)

pub returns-in-Ok-commit_restore-clause-answer : goal.returns-in-Ok-commit_restore-clause-answer
returns-in-Ok-commit_restore-clause-answer g c = grind (arith, common_steps)
