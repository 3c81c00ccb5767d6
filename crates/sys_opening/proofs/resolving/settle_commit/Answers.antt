use Rattle.std.proofs.Common.{List, [], None, OnOk, sym, subst}
use Rattle.std.specs.Result.{result_err}
use Rattle.dl_areas.specs.Writing.{Does}
use Rattle.fm_manager.specs.Managed.{as_writes}
use Rattle.meaning_areas.specs.Lists.{Written}
use Rattle.sys_opening.proofs.Finished.{settles-none}
use Rattle.sys_opening.proofs.Settling.{told-has, told-nothing, told-writes}
use Rattle.sys_opening.proofs.Trying.{tries-all}
use Rattle.sys_opening.specs.Halting.{Halts, Tries}
use Rattle.sys_opening.specs.Resolving.{Settles}
use Rattle.sys_owners.specs.Owned.{folds_in, journals_of}
use Rattle.sys_opening.proofs.resolving.settle_commit.Goals as goal

pub settle-requires-clause-committed : goal.settle-requires-clause-committed
settle-requires-clause-committed g c = told-has (folds_in c.args.owners.now) c.args.number (c.in-Some.tx, c.in-Some.field-0-1) c.in-Some.ensures

pub returns-in-Some-clause-settles : goal.returns-in-Some-clause-settles
returns-in-Some-clause-settles g c =
    let f = folds_in c.args.owners.now in
    subst (λ (xs : List Written). OnOk c.settle.result (Settles f (folds_in c.settle.new.owners) xs)) (sym (told-writes f c.args.number (c.in-Some.tx, c.in-Some.field-0-1) c.in-Some.ensures)) c.settle.ensures.settles

pub returns-in-Some-clause-halts : goal.returns-in-Some-clause-halts
returns-in-Some-clause-halts g c =
    let O = g.B.Bench.outside in
    let w = c.args.owners.now in
    subst (λ (xs : List Written). Halts (journals_of w) (journals_of c.settle.new.owners) (as_writes xs) (result_err c.settle.result) (O c.args.bench.now) (O c.settle.new.bench))
    (sym (told-writes (folds_in w) c.args.number (c.in-Some.tx, c.in-Some.field-0-1) c.in-Some.ensures)) c.settle.ensures.halts

pub returns-in-None-clause-settles : goal.returns-in-None-clause-settles
returns-in-None-clause-settles g c =
    let f = folds_in c.args.owners.now in
    subst (λ (xs : List Written). Settles f f xs) (sym (told-nothing f c.args.number c.in-None.ensures)) (settles-none f)

pub returns-in-None-clause-halts : goal.returns-in-None-clause-halts
returns-in-None-clause-halts g c =
    let O = g.B.Bench.outside in
    let w = c.args.owners.now in
    subst (λ (xs : List Written). Does (journals_of w) (journals_of w) (as_writes xs) None (O c.args.bench.now) (O c.args.bench.now))
    (sym (told-nothing (folds_in w) c.args.number c.in-None.ensures)) (c.calls_follow_one_another.ensures.none (journals_of w) c.args.bench.now)

pub returns-in-Some-clause-tries : goal.returns-in-Some-clause-tries
returns-in-Some-clause-tries g c =
    let O = g.B.Bench.outside in
    let w = c.args.owners.now in
    subst (λ (xs : List Written). Tries (journals_of w) (journals_of c.settle.new.owners) xs (result_err c.settle.result) (O c.args.bench.now) (O c.settle.new.bench))
    (sym (told-writes (folds_in w) c.args.number (c.in-Some.tx, c.in-Some.field-0-1) c.in-Some.ensures)) c.settle.ensures.tries

pub returns-in-None-clause-tries : goal.returns-in-None-clause-tries
returns-in-None-clause-tries g c =
    let O = g.B.Bench.outside in
    let w = c.args.owners.now in
    subst (λ (xs : List Written). Tries (journals_of w) (journals_of w) xs None (O c.args.bench.now) (O c.args.bench.now))
    (sym (told-nothing (folds_in w) c.args.number c.in-None.ensures))
    (tries-all (journals_of w) (journals_of w) (O c.args.bench.now) (O c.args.bench.now) [] None None tt (c.calls_follow_one_another.ensures.none (journals_of w) c.args.bench.now))
