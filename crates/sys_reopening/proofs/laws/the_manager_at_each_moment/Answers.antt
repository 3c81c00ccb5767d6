use Rattle.std.proofs.Common.{[], ◌∷◌}
use Rattle.dl_codec.specs.declared.archive.ArchiveRecord.TheVariants as archive_records
use Rattle.dl_codec.specs.declared.links.LinksRecord.TheVariants as links_records
use Rattle.fm_manager.specs.Managed.{kept_in}
use Rattle.fm_manager.specs.Pieces.{manager_part}
use Rattle.meaning_areas.specs.Lists.{in_archive, in_links}
use Rattle.sys_reopening.proofs.Leading.{aborted-have, does-lead, ends-lead, finish-have, front-since}
use Rattle.sys_reopening.proofs.laws.the_manager_at_each_moment.Goals as goal

pub returns-clause-call : goal.returns-clause-call
returns-clause-call g c lists rows backups js m n xs fault o e over taken have folds manages =
    let O = g.B.Bench.outside in
    does-lead c.what_is_written_is_read.ensures.folded lists rows backups js m (O o) (O e) over n xs (taken rows backups) fault have folds (manages.does js over.ready over.its)

pub returns-clause-step : goal.returns-clause-step
returns-clause-step g c lists rows backups js m n xs fault o e over taken have folds manages =
    let O = g.B.Bench.outside in
    ends-lead c.what_is_written_is_read.ensures.folded lists rows backups js m (O o) (O e) over n xs (taken rows backups) fault have folds (manages.ends js over.ready over.its)

pub returns-clause-prepare : goal.returns-clause-prepare
returns-clause-prepare g c lists rows backups js m n tx gives takes fault o e over taken spelled folds manages =
    let O = g.B.Bench.outside in
    ends-lead c.what_is_written_is_read.ensures.folded lists rows backups js m (O o) (O e) over n (in_links (links_records.Prepared tx gives takes) ∷ []) (taken rows backups) fault
    (λ other. (λ fits. spelled other, tt)) folds (manages.ends js over.ready over.its)

pub returns-clause-abort : goal.returns-clause-abort
returns-clause-abort g c lists rows backups js m n tx fault o e over taken less folds manages =
    let O = g.B.Bench.outside in
    does-lead c.what_is_written_is_read.ensures.folded lists rows backups js m (O o) (O e) over n (in_links (links_records.Aborted tx) ∷ []) (taken rows backups) fault
    (aborted-have tx less) folds (manages.does js over.ready over.its)

pub returns-clause-store : goal.returns-clause-store
returns-clause-store g c lists rows backups js m n copy fault o e over taken spelled folds manages =
    let O = g.B.Bench.outside in
    does-lead c.what_is_written_is_read.ensures.folded lists rows backups js m (O o) (O e) over n (in_archive (archive_records.Copy copy) ∷ []) (taken rows backups) fault
    (λ fits. spelled, tt) folds (manages.does js over.ready over.its)

pub returns-clause-finish : goal.returns-clause-finish
returns-clause-finish g c lists rows backups js m n pieces moved phase fault o e over are taken spelled folds manages =
    let O = g.B.Bench.outside in
    does-lead c.what_is_written_is_read.ensures.folded lists rows backups js m (O o) (O e) over n (manager_part pieces.tx phase moved (kept_in m)) (taken rows backups) fault
    (finish-have pieces moved phase (kept_in m) are spelled) folds (manages.does js over.ready over.its)

pub returns-clause-crash : goal.returns-clause-crash
returns-clause-crash g c lists rows backups js m xs o e over moments p left =
    let O = g.B.Bench.outside in
    front-since c.what_is_written_is_read.ensures.folded lists rows backups js m (O o) (O e) over xs (g.met.B.Bench.lawful o) moments p left
