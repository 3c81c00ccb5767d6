use Rattle.std.proofs.Common.{List, [], ◌∷◌, None, Some, sym, ◌∙◌, ap, subst}
use Rattle.std.specs.Result.{result_err}
use Rattle.dl_areas.specs.Writing.{Does}
use Rattle.dl_codec.specs.declared.links.LinksRecord.TheVariants as links_records
use Rattle.fm_manager.specs.Managed.{as_writes}
use Rattle.meaning_areas.specs.Lists.{Written, folds_on, in_links}
use Rattle.sys_opening.proofs.Dropping.{dropped-not, dropped-so, dropped-taken}
use Rattle.sys_opening.proofs.Spelling.{drop-spelled}
use Rattle.sys_owners.proofs.Placing.{manager-does, manager-open, on-ok, with_manager}
use Rattle.sys_owners.specs.Owned.{Owned, folds_in, journals_of}
use Rattle.sys_opening.proofs.resolving.drop_one.Goals as goal

pub returns-then-decided-clause-folds : goal.returns-then-decided-clause-folds
returns-then-decided-clause-folds g c =
    let f = folds_in c.args.owners.now in
    ap (folds_on (Some f)) (dropped-not f c.args.tx c.decided.result c.decided.ensures c.if-decided.true)

pub returns-then-decided-clause-does : goal.returns-then-decided-clause-does
returns-then-decided-clause-does g c =
    let O = g.B.Bench.outside in
    let w = c.args.owners.now in
    subst (λ (xs : List Written). Does (journals_of w) (journals_of w) (as_writes xs) None (O c.args.bench.now) (O c.args.bench.now))
    (sym (dropped-not (folds_in w) c.args.tx c.decided.result c.decided.ensures c.if-decided.true))
    (c.calls_follow_one_another.ensures.none (journals_of w) c.args.bench.now)

pub returns-then-decided-clause-spelled : goal.returns-then-decided-clause-spelled
returns-then-decided-clause-spelled g c = drop-spelled (folds_in c.args.owners.now) c.args.tx c.ranges.tx.fits

pub returns-clause-spelled : goal.returns-clause-spelled
returns-clause-spelled g c = drop-spelled (folds_in c.args.owners.now) c.args.tx c.ranges.tx.fits

pub abort-requires-clause-ready : goal.abort-requires-clause-ready
abort-requires-clause-ready g c = manager-open c.args.owners.now (g.B.Bench.outside c.args.bench.now) c.requires.ready

pub abort-requires-clause-taken : goal.abort-requires-clause-taken
abort-requires-clause-taken g c = dropped-taken c.args.owners.now c.args.tx c.decided.result c.decided.ensures c.if-decided.false c.requires.taken

pub returns-clause-folds : goal.returns-clause-folds
returns-clause-folds g c =
    let w = c.args.owners.now in
    on-ok c.abort.result c.abort.ensures.folds (λ leads.
    ap (folds_on (Some (folds_in w))) (dropped-so (folds_in w) c.args.tx c.decided.result c.decided.ensures c.if-decided.false) ∙ leads w.store.rows w.backups.backups)

pub returns-clause-does : goal.returns-clause-does
returns-clause-does g c =
    let O = g.B.Bench.outside in
    let w = c.args.owners.now in
    let u : Owned = with_manager w c.abort.new.self in
    let fault = result_err c.abort.result in
    subst (λ (xs : List Written). Does (journals_of w) (journals_of u) (as_writes xs) fault (O c.args.bench.now) (O c.abort.new.bench))
    (sym (dropped-so (folds_in w) c.args.tx c.decided.result c.decided.ensures c.if-decided.false))
    (manager-does w (as_writes (in_links (links_records.Aborted c.args.tx) ∷ [])) fault (O c.args.bench.now) (O c.abort.new.bench) c.requires.ready c.abort.new.self c.abort.ensures.does)
