use Rattle.std.proofs.Common.{List, [], ◌∷◌, None, Some, sym, ◌∙◌, ap, subst}
use Rattle.std.specs.Result.{result_err}
use Rattle.dl_areas.specs.Writing.{Does, Ends}
use Rattle.dl_codec.specs.declared.links.LinksRecord.TheVariants as links_records
use Rattle.fm_manager.specs.Managed.{Managed, as_writes}
use Rattle.meaning_areas.specs.Lists.{Written, folds_on, in_links}
use Rattle.meaning_system.specs.Writes.{prepared}
use Rattle.sys_owners.proofs.Placing.{manager-open, on-ok, with_manager}
use Rattle.sys_owners.specs.Owned.{Owned, folds_in, journals_of}
use Rattle.sys_records.proofs.Branched.{nothing-prepared, prepared-copies, prepared-spelled, prepared-taken}
use Rattle.sys_records.proofs.Managing.{manager-ends, on-err}
use Rattle.sys_records.proofs.Spelled.{as-spelled}
use Rattle.sys_records.specs.Restoring.{moving}
use Rattle.sys_records.proofs.branch.write_prepared.Goals as goal

-- there is no record
pub returns-then-not-moves_links-clause-folds : goal.returns-then-not-moves_links-clause-folds
returns-then-not-moves_links-clause-folds g c =
    ap (folds_on (Some (folds_in c.args.owners.now))) (nothing-prepared c.args.tx c.args.gives.now c.args.takes.now c.args.fill (sym c.moves_links.ensures ∙ c.if-not-moves_links.true))

pub returns-then-not-moves_links-clause-ends : goal.returns-then-not-moves_links-clause-ends
returns-then-not-moves_links-clause-ends g c =
    let O = g.B.Bench.outside in
    let js = journals_of c.args.owners.now in
    subst (λ (xs : List Written). Does js js (as_writes xs) None (O c.args.bench.now) (O c.args.bench.now))
    (sym (nothing-prepared c.args.tx c.args.gives.now c.args.takes.now c.args.fill (sym c.moves_links.ensures ∙ c.if-not-moves_links.true)))
    (c.calls_follow_one_another.ensures.none js c.args.bench.now)

-- it is written
pub prepare-requires-clause-ready : goal.prepare-requires-clause-ready
prepare-requires-clause-ready g c = manager-open c.args.owners.now (g.B.Bench.outside c.args.bench.now) c.requires.ready

pub prepare-requires-clause-taken : goal.prepare-requires-clause-taken
prepare-requires-clause-taken g c =
    prepared-taken c.args.tx c.args.gives.now c.args.takes.now c.args.fill c.in_ok-gives.gives c.in_ok-takes.takes
    (sym c.moves_links.ensures ∙ c.if-not-moves_links.false) c.in_ok-gives.ensures c.in_ok-takes.ensures c.args.owners.now c.requires.taken

pub returns-clause-folds : goal.returns-clause-folds
returns-clause-folds g c =
    let w = c.args.owners.now in
    on-ok c.prepare.result c.prepare.ensures.folds (λ leads.
    ap (folds_on (Some (folds_in w)))
    (sym (prepared-copies c.args.tx c.args.gives.now c.args.takes.now c.args.fill c.in_ok-gives.gives c.in_ok-takes.takes (sym c.moves_links.ensures ∙ c.if-not-moves_links.false) c.in_ok-gives.ensures c.in_ok-takes.ensures))
    ∙ leads w.store.rows w.backups.backups)

pub returns-clause-same : goal.returns-clause-same
returns-clause-same g c =
    let w = c.args.owners.now in
    on-ok c.prepare.result c.prepare.ensures.same (λ same. ap (λ (m : Managed). with_manager w m) same)

pub returns-clause-err : goal.returns-clause-err
returns-clause-err g c =
    let w = c.args.owners.now in
    on-err c.prepare.result c.prepare.ensures.err (λ same. ap (λ (m : Managed). with_manager w m) same)

pub returns-clause-ends : goal.returns-clause-ends
returns-clause-ends g c =
    let O = g.B.Bench.outside in
    let w = c.args.owners.now in
    let u : Owned = with_manager w c.prepare.new.self in
    let fault = result_err c.prepare.result in
    subst (λ (xs : List Written). Ends (journals_of w) (journals_of u) (as_writes xs) fault (O c.args.bench.now) (O c.prepare.new.bench))
    (prepared-copies c.args.tx c.args.gives.now c.args.takes.now c.args.fill c.in_ok-gives.gives c.in_ok-takes.takes (sym c.moves_links.ensures ∙ c.if-not-moves_links.false) c.in_ok-gives.ensures c.in_ok-takes.ensures)
    (manager-ends w (as_writes (in_links (links_records.Prepared c.args.tx c.in_ok-gives.gives c.in_ok-takes.takes) ∷ [])) fault (O c.args.bench.now) (O c.prepare.new.bench) c.requires.ready c.prepare.new.self c.prepare.ensures.ends)

-- its spelling
pub returns-then-not-moves_links-clause-spelled : goal.returns-then-not-moves_links-clause-spelled
returns-then-not-moves_links-clause-spelled g c kept =
    as-spelled (prepared c.args.tx (moving c.args.gives.now c.args.takes.now c.args.fill)) []
    (nothing-prepared c.args.tx c.args.gives.now c.args.takes.now c.args.fill (sym c.moves_links.ensures ∙ c.if-not-moves_links.true)) tt

pub returns-clause-spelled : goal.returns-clause-spelled
returns-clause-spelled g c kept =
    prepared-spelled c.args.tx c.args.gives.now c.args.takes.now c.args.fill c.in_ok-gives.gives c.in_ok-takes.takes
    (sym c.moves_links.ensures ∙ c.if-not-moves_links.false) c.in_ok-gives.ensures c.in_ok-takes.ensures (c.prepare.ensures.spelled kept)
