use Rattle.std.proofs.Common.{◌+◌, ◌∷◌, [], Some, None, ap, refl}
use Rattle.std.specs.Result.{result_err}
use Rattle.db_store.specs.Store.{Database}
use Rattle.dl_base.specs.declared.area.Area.TheVariants as areas
use Rattle.dl_codec.specs.declared.links.LinksRecord.TheVariants as links_records
use Rattle.dl_codec.specs.declared.rows.RowsRecord.TheVariants as rows_records
use Rattle.fm_manager.specs.Managed.{as_writes}
use Rattle.meaning_areas.specs.Lists.{in_links, in_rows}
use Rattle.sys_owners.proofs.Placing.{both-counted, manager-does, manager-open, on-any, on-ok, store-does, with_manager, with_store}
use Rattle.sys_owners.specs.Owned.{journals_of}
use Rattle.sys_opening.proofs.announce.announce.Goals as goal

pub announce-requires : goal.announce-requires
announce-requires g c = c.requires.gates areas.Rows

pub announce-requires-in-Ok : goal.announce-requires-in-Ok
announce-requires-in-Ok g c =
    let O = g.B.Bench.outside in
    let w = c.args.owners.now in
    let d = c.announce.new.self in
    let rows = store-does w (as_writes (in_rows (rows_records.Opening (w.store.rows.opening + 1)) ∷ [])) None (O c.args.bench.now) (O c.announce.new.bench) c.requires d c.in-Ok.ensures.does in
    manager-open (with_store w d) (O c.announce.new.bench) (rows.ready refl c.requires)

pub returns-in-Ok-clause-folds : goal.returns-in-Ok-clause-folds
returns-in-Ok-clause-folds g c =
    let w = c.args.owners.now in
    let d = c.announce.new.self in
    let m = c.announce-in-Ok.new.self in
    on-ok c.announce-in-Ok.result c.announce-in-Ok.ensures.same (λ same. both-counted w d m d.length m.links.length c.in-Ok.ensures.ok same)

pub returns-in-Ok-clause-drawn : goal.returns-in-Ok-clause-drawn
returns-in-Ok-clause-drawn g c = on-any c.announce-in-Ok.result (ap (λ (d : Database). d.drawn) c.in-Ok.ensures.ok)

pub returns-in-Ok-clause-does : goal.returns-in-Ok-clause-does
returns-in-Ok-clause-does g c =
    let O = g.B.Bench.outside in
    let w = c.args.owners.now in
    let d = c.announce.new.self in
    let m = c.announce-in-Ok.new.self in
    let ws = as_writes (in_rows (rows_records.Opening (w.store.rows.opening + 1)) ∷ []) in
    let vs = as_writes (in_links (links_records.Opening (w.manager.links.links.opening + 1)) ∷ []) in
    let rows = store-does w ws None (O c.args.bench.now) (O c.announce.new.bench) c.requires d c.in-Ok.ensures.does in
    c.calls_follow_one_another.ensures.then (journals_of w) (journals_of (with_store w d)) (journals_of (with_manager (with_store w d) m)) ws vs (result_err c.announce-in-Ok.result)
    c.args.bench.now c.announce.new.bench c.announce-in-Ok.new.bench rows
    (manager-does (with_store w d) vs (result_err c.announce-in-Ok.result) (O c.announce.new.bench) (O c.announce-in-Ok.new.bench) (rows.ready refl c.requires) m c.announce-in-Ok.ensures.does)

pub returns-in-Err-clause-does : goal.returns-in-Err-clause-does
returns-in-Err-clause-does g c =
    let O = g.B.Bench.outside in
    let w = c.args.owners.now in
    let d = c.announce.new.self in
    let ws = as_writes (in_rows (rows_records.Opening (w.store.rows.opening + 1)) ∷ []) in
    let vs = as_writes (in_links (links_records.Opening (w.manager.links.links.opening + 1)) ∷ []) in
    c.calls_follow_one_another.ensures.stop (journals_of w) (journals_of (with_store w d)) ws vs c.in-Err.fault c.args.bench.now c.announce.new.bench
    (store-does w ws (Some c.in-Err.fault) (O c.args.bench.now) (O c.announce.new.bench) c.requires d c.in-Err.ensures.does)
