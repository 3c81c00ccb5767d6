use Rattle.std.proofs.Common.{◌≡◌, Err, refl, sym, ◌∙◌, ap, subst, arith}
use Rattle.dl_areas.specs.Lists.{Lists, by_area}
use Rattle.dl_areas.specs.Opening.{AreOpened}
use Rattle.dl_base.specs.declared.area.Area.TheVariants as areas
use Rattle.dl_base.specs.declared.fault.BeginFault.{BeginFault}
use Rattle.fm_manager.specs.Managed.{Managed}
use Rattle.meaning_areas.specs.Areas.{branches_of, copies_of, rows_of}
use Rattle.meaning_areas.specs.FilesArea.{files_of}
use Rattle.sys_opening.proofs.Halts.{risen}
use Rattle.sys_owners.proofs.Reading.{no-backups, no-copies, no-files, no-links, no-rows, read-behind}
use Rattle.sys_opening.proofs.Refusing.{by-device, fault-same, never-full, refused-at, refused-by}
use Rattle.sys_opening.specs.Faults.{open_fault}
use Rattle.sys_opening.specs.declared.fault.OpenFault.TheVariants as faults
use Rattle.sys_owners.specs.Owned.{AreFolded, Owned, folds_in, journals_of}
use Rattle.sys_opening.proofs.opening.open_all.Goals as goal

pub returns-in-Err-clause-opens : goal.returns-in-Err-clause-opens
returns-in-Err-clause-opens g c = c.areas_are_opened_in_order.ensures.at_most 1 5 c.args.bench.now c.begin.new.bench (omega arith) (c.areas_are_opened_in_order.ensures.one c.args.bench.now c.begin.new.bench c.begin.ensures.opens)

pub returns-in-Err-clause-no_store : goal.returns-in-Err-clause-no_store
returns-in-Err-clause-no_store g c area place is x told =
    let O = g.B.Bench.outside in
    let same : open_fault areas.Rows c.in-Err.fault ≡ faults.NotAStore area place = sym c.open_fault.ensures ∙ fault-same c.open_fault.result (faults.NotAStore area place) is in
    let which = refused-by areas.Rows area c.in-Err.fault place same in
    refused-at areas.Rows area place x which.0 (no-rows x place (c.in-Err.ensures.no_rows place (ap (λ (f : BeginFault). Err f) which.1) x.rows (told areas.Rows)))

pub returns-in-Err-clause-device : goal.returns-in-Err-clause-device
returns-in-Err-clause-device g c is =
    let O = g.B.Bench.outside in
    let same : open_fault areas.Rows c.in-Err.fault ≡ faults.Device = sym c.open_fault.ensures ∙ fault-same c.open_fault.result faults.Device is in
    c.in-Err.ensures.device (ap (λ (f : BeginFault). Err f) (by-device areas.Rows c.in-Err.fault same))

pub returns-in-Err-clause-no_full : goal.returns-in-Err-clause-no_full
returns-in-Err-clause-no_full g c full is = never-full areas.Rows c.in-Err.fault full (sym c.open_fault.ensures ∙ fault-same c.open_fault.result (faults.Full full) is)

pub returns-in-Err-begin-clause-opens : goal.returns-in-Err-begin-clause-opens
returns-in-Err-begin-clause-opens g c = c.areas_are_opened_in_order.ensures.at_most 2 5 c.args.bench.now c.begin-2.new.bench (omega arith) (c.areas_are_opened_in_order.ensures.two c.args.bench.now c.begin.new.bench c.begin-2.new.bench c.begin.ensures.opens c.begin-2.ensures.opens)

pub returns-in-Err-begin-clause-no_store : goal.returns-in-Err-begin-clause-no_store
returns-in-Err-begin-clause-no_store g c area place is x told =
    let O = g.B.Bench.outside in
    let same : open_fault areas.Links c.in-Err-begin.fault ≡ faults.NotAStore area place = sym c.open_fault-in-Err-begin.ensures ∙ fault-same c.open_fault-in-Err-begin.result (faults.NotAStore area place) is in
    let which = refused-by areas.Links area c.in-Err-begin.fault place same in
    refused-at areas.Links area place x which.0 (no-links x c.in-Ok.store.rows (read-behind rows_of areas.Rows x (O c.args.bench.now) (O c.args.bench.now) c.in-Ok.ensures.opened.0 c.in-Ok.store.rows told refl c.in-Ok.ensures.opened.1.is_list c.in-Ok.ensures.opened.2) place (c.in-Err-begin.ensures.no_links place (ap (λ (f : BeginFault). Err f) which.1) x.links ((c.areas_are_opened_in_order.ensures.one c.args.bench.now c.begin.new.bench c.begin.ensures.opens).still areas.Links (omega arith) ∙ told areas.Links)))

pub returns-in-Err-begin-clause-device : goal.returns-in-Err-begin-clause-device
returns-in-Err-begin-clause-device g c is =
    let O = g.B.Bench.outside in
    let same : open_fault areas.Links c.in-Err-begin.fault ≡ faults.Device = sym c.open_fault-in-Err-begin.ensures ∙ fault-same c.open_fault-in-Err-begin.result faults.Device is in
    risen (O c.args.bench.now) (O c.begin.new.bench) (O c.begin-2.new.bench) (c.areas_are_opened_in_order.ensures.one c.args.bench.now c.begin.new.bench c.begin.ensures.opens).moments.faults (c.in-Err-begin.ensures.device (ap (λ (f : BeginFault). Err f) (by-device areas.Links c.in-Err-begin.fault same)))

pub returns-in-Err-begin-clause-no_full : goal.returns-in-Err-begin-clause-no_full
returns-in-Err-begin-clause-no_full g c full is = never-full areas.Links c.in-Err-begin.fault full (sym c.open_fault-in-Err-begin.ensures ∙ fault-same c.open_fault-in-Err-begin.result (faults.Full full) is)

pub returns-in-Err-begin-2-clause-opens : goal.returns-in-Err-begin-2-clause-opens
returns-in-Err-begin-2-clause-opens g c = c.areas_are_opened_in_order.ensures.at_most 3 5 c.args.bench.now c.begin-3.new.bench (omega arith) (c.areas_are_opened_in_order.ensures.three c.args.bench.now c.begin.new.bench c.begin-2.new.bench c.begin-3.new.bench c.begin.ensures.opens c.begin-2.ensures.opens c.begin-3.ensures.opens)

pub returns-in-Err-begin-2-clause-no_store : goal.returns-in-Err-begin-2-clause-no_store
returns-in-Err-begin-2-clause-no_store g c area place is x told =
    let O = g.B.Bench.outside in
    let same : open_fault areas.Files c.in-Err-begin-2.fault ≡ faults.NotAStore area place = sym c.open_fault-in-Err-begin-2.ensures ∙ fault-same c.open_fault-in-Err-begin-2.result (faults.NotAStore area place) is in
    let which = refused-by areas.Files area c.in-Err-begin-2.fault place same in
    refused-at areas.Files area place x which.0 (no-files x c.in-Ok.store.rows (read-behind rows_of areas.Rows x (O c.args.bench.now) (O c.args.bench.now) c.in-Ok.ensures.opened.0 c.in-Ok.store.rows told refl c.in-Ok.ensures.opened.1.is_list c.in-Ok.ensures.opened.2) c.in-Ok-begin.branches.links (read-behind branches_of areas.Links x (O c.args.bench.now) (O c.begin.new.bench) c.in-Ok-begin.ensures.opened.0 c.in-Ok-begin.branches.links told ((c.areas_are_opened_in_order.ensures.one c.args.bench.now c.begin.new.bench c.begin.ensures.opens).still areas.Links (omega arith)) c.in-Ok-begin.ensures.opened.1.is_list c.in-Ok-begin.ensures.opened.2) place (c.in-Err-begin-2.ensures.no_files place (ap (λ (f : BeginFault). Err f) which.1) x.files ((c.areas_are_opened_in_order.ensures.two c.args.bench.now c.begin.new.bench c.begin-2.new.bench c.begin.ensures.opens c.begin-2.ensures.opens).still areas.Files (omega arith) ∙ told areas.Files)))

pub returns-in-Err-begin-2-clause-device : goal.returns-in-Err-begin-2-clause-device
returns-in-Err-begin-2-clause-device g c is =
    let O = g.B.Bench.outside in
    let same : open_fault areas.Files c.in-Err-begin-2.fault ≡ faults.Device = sym c.open_fault-in-Err-begin-2.ensures ∙ fault-same c.open_fault-in-Err-begin-2.result faults.Device is in
    risen (O c.args.bench.now) (O c.begin-2.new.bench) (O c.begin-3.new.bench) (c.areas_are_opened_in_order.ensures.two c.args.bench.now c.begin.new.bench c.begin-2.new.bench c.begin.ensures.opens c.begin-2.ensures.opens).moments.faults (c.in-Err-begin-2.ensures.device (ap (λ (f : BeginFault). Err f) (by-device areas.Files c.in-Err-begin-2.fault same)))

pub returns-in-Err-begin-2-clause-no_full : goal.returns-in-Err-begin-2-clause-no_full
returns-in-Err-begin-2-clause-no_full g c full is = never-full areas.Files c.in-Err-begin-2.fault full (sym c.open_fault-in-Err-begin-2.ensures ∙ fault-same c.open_fault-in-Err-begin-2.result (faults.Full full) is)

pub returns-in-Err-begin-3-clause-opens : goal.returns-in-Err-begin-3-clause-opens
returns-in-Err-begin-3-clause-opens g c = c.areas_are_opened_in_order.ensures.at_most 4 5 c.args.bench.now c.begin-4.new.bench (omega arith) (c.areas_are_opened_in_order.ensures.four c.args.bench.now c.begin.new.bench c.begin-2.new.bench c.begin-3.new.bench c.begin-4.new.bench c.begin.ensures.opens c.begin-2.ensures.opens c.begin-3.ensures.opens c.begin-4.ensures.opens)

pub returns-in-Err-begin-3-clause-no_store : goal.returns-in-Err-begin-3-clause-no_store
returns-in-Err-begin-3-clause-no_store g c area place is x told =
    let O = g.B.Bench.outside in
    let same : open_fault areas.Archive c.in-Err-begin-3.fault ≡ faults.NotAStore area place = sym c.open_fault-in-Err-begin-3.ensures ∙ fault-same c.open_fault-in-Err-begin-3.result (faults.NotAStore area place) is in
    let which = refused-by areas.Archive area c.in-Err-begin-3.fault place same in
    refused-at areas.Archive area place x which.0 (no-copies x c.in-Ok.store.rows (read-behind rows_of areas.Rows x (O c.args.bench.now) (O c.args.bench.now) c.in-Ok.ensures.opened.0 c.in-Ok.store.rows told refl c.in-Ok.ensures.opened.1.is_list c.in-Ok.ensures.opened.2) c.in-Ok-begin.branches.links (read-behind branches_of areas.Links x (O c.args.bench.now) (O c.begin.new.bench) c.in-Ok-begin.ensures.opened.0 c.in-Ok-begin.branches.links told ((c.areas_are_opened_in_order.ensures.one c.args.bench.now c.begin.new.bench c.begin.ensures.opens).still areas.Links (omega arith)) c.in-Ok-begin.ensures.opened.1.is_list c.in-Ok-begin.ensures.opened.2) c.in-Ok-begin-2.files.files (read-behind files_of areas.Files x (O c.args.bench.now) (O c.begin-2.new.bench) c.in-Ok-begin-2.ensures.opened.0 c.in-Ok-begin-2.files.files told ((c.areas_are_opened_in_order.ensures.two c.args.bench.now c.begin.new.bench c.begin-2.new.bench c.begin.ensures.opens c.begin-2.ensures.opens).still areas.Files (omega arith)) c.in-Ok-begin-2.ensures.opened.1.is_list c.in-Ok-begin-2.ensures.opened.2) place (c.in-Err-begin-3.ensures.no_copies place (ap (λ (f : BeginFault). Err f) which.1) x.archive ((c.areas_are_opened_in_order.ensures.three c.args.bench.now c.begin.new.bench c.begin-2.new.bench c.begin-3.new.bench c.begin.ensures.opens c.begin-2.ensures.opens c.begin-3.ensures.opens).still areas.Archive (omega arith) ∙ told areas.Archive)))

pub returns-in-Err-begin-3-clause-device : goal.returns-in-Err-begin-3-clause-device
returns-in-Err-begin-3-clause-device g c is =
    let O = g.B.Bench.outside in
    let same : open_fault areas.Archive c.in-Err-begin-3.fault ≡ faults.Device = sym c.open_fault-in-Err-begin-3.ensures ∙ fault-same c.open_fault-in-Err-begin-3.result faults.Device is in
    risen (O c.args.bench.now) (O c.begin-3.new.bench) (O c.begin-4.new.bench) (c.areas_are_opened_in_order.ensures.three c.args.bench.now c.begin.new.bench c.begin-2.new.bench c.begin-3.new.bench c.begin.ensures.opens c.begin-2.ensures.opens c.begin-3.ensures.opens).moments.faults (c.in-Err-begin-3.ensures.device (ap (λ (f : BeginFault). Err f) (by-device areas.Archive c.in-Err-begin-3.fault same)))

pub returns-in-Err-begin-3-clause-no_full : goal.returns-in-Err-begin-3-clause-no_full
returns-in-Err-begin-3-clause-no_full g c full is = never-full areas.Archive c.in-Err-begin-3.fault full (sym c.open_fault-in-Err-begin-3.ensures ∙ fault-same c.open_fault-in-Err-begin-3.result (faults.Full full) is)

pub returns-in-Err-begin-4-clause-opens : goal.returns-in-Err-begin-4-clause-opens
returns-in-Err-begin-4-clause-opens g c = c.areas_are_opened_in_order.ensures.at_most 5 5 c.args.bench.now c.begin-5.new.bench (omega arith) (c.areas_are_opened_in_order.ensures.five c.args.bench.now c.begin.new.bench c.begin-2.new.bench c.begin-3.new.bench c.begin-4.new.bench c.begin-5.new.bench c.begin.ensures.opens c.begin-2.ensures.opens c.begin-3.ensures.opens c.begin-4.ensures.opens c.begin-5.ensures.opens)

pub returns-in-Err-begin-4-clause-no_store : goal.returns-in-Err-begin-4-clause-no_store
returns-in-Err-begin-4-clause-no_store g c area place is x told =
    let O = g.B.Bench.outside in
    let same : open_fault areas.Backups c.in-Err-begin-4.fault ≡ faults.NotAStore area place = sym c.open_fault-in-Err-begin-4.ensures ∙ fault-same c.open_fault-in-Err-begin-4.result (faults.NotAStore area place) is in
    let which = refused-by areas.Backups area c.in-Err-begin-4.fault place same in
    refused-at areas.Backups area place x which.0 (no-backups x c.in-Ok.store.rows (read-behind rows_of areas.Rows x (O c.args.bench.now) (O c.args.bench.now) c.in-Ok.ensures.opened.0 c.in-Ok.store.rows told refl c.in-Ok.ensures.opened.1.is_list c.in-Ok.ensures.opened.2) c.in-Ok-begin.branches.links (read-behind branches_of areas.Links x (O c.args.bench.now) (O c.begin.new.bench) c.in-Ok-begin.ensures.opened.0 c.in-Ok-begin.branches.links told ((c.areas_are_opened_in_order.ensures.one c.args.bench.now c.begin.new.bench c.begin.ensures.opens).still areas.Links (omega arith)) c.in-Ok-begin.ensures.opened.1.is_list c.in-Ok-begin.ensures.opened.2) c.in-Ok-begin-2.files.files (read-behind files_of areas.Files x (O c.args.bench.now) (O c.begin-2.new.bench) c.in-Ok-begin-2.ensures.opened.0 c.in-Ok-begin-2.files.files told ((c.areas_are_opened_in_order.ensures.two c.args.bench.now c.begin.new.bench c.begin-2.new.bench c.begin.ensures.opens c.begin-2.ensures.opens).still areas.Files (omega arith)) c.in-Ok-begin-2.ensures.opened.1.is_list c.in-Ok-begin-2.ensures.opened.2) c.in-Ok-begin-3.archive.copies (read-behind copies_of areas.Archive x (O c.args.bench.now) (O c.begin-3.new.bench) c.in-Ok-begin-3.ensures.opened.0 c.in-Ok-begin-3.archive.copies told ((c.areas_are_opened_in_order.ensures.three c.args.bench.now c.begin.new.bench c.begin-2.new.bench c.begin-3.new.bench c.begin.ensures.opens c.begin-2.ensures.opens c.begin-3.ensures.opens).still areas.Archive (omega arith)) c.in-Ok-begin-3.ensures.opened.1.is_list c.in-Ok-begin-3.ensures.opened.2) place (c.in-Err-begin-4.ensures.no_backups place (ap (λ (f : BeginFault). Err f) which.1) x.backups ((c.areas_are_opened_in_order.ensures.four c.args.bench.now c.begin.new.bench c.begin-2.new.bench c.begin-3.new.bench c.begin-4.new.bench c.begin.ensures.opens c.begin-2.ensures.opens c.begin-3.ensures.opens c.begin-4.ensures.opens).still areas.Backups (omega arith) ∙ told areas.Backups)))

pub returns-in-Err-begin-4-clause-device : goal.returns-in-Err-begin-4-clause-device
returns-in-Err-begin-4-clause-device g c is =
    let O = g.B.Bench.outside in
    let same : open_fault areas.Backups c.in-Err-begin-4.fault ≡ faults.Device = sym c.open_fault-in-Err-begin-4.ensures ∙ fault-same c.open_fault-in-Err-begin-4.result faults.Device is in
    risen (O c.args.bench.now) (O c.begin-4.new.bench) (O c.begin-5.new.bench) (c.areas_are_opened_in_order.ensures.four c.args.bench.now c.begin.new.bench c.begin-2.new.bench c.begin-3.new.bench c.begin-4.new.bench c.begin.ensures.opens c.begin-2.ensures.opens c.begin-3.ensures.opens c.begin-4.ensures.opens).moments.faults (c.in-Err-begin-4.ensures.device (ap (λ (f : BeginFault). Err f) (by-device areas.Backups c.in-Err-begin-4.fault same)))

pub returns-in-Err-begin-4-clause-no_full : goal.returns-in-Err-begin-4-clause-no_full
returns-in-Err-begin-4-clause-no_full g c full is = never-full areas.Backups c.in-Err-begin-4.fault full (sym c.open_fault-in-Err-begin-4.ensures ∙ fault-same c.open_fault-in-Err-begin-4.result (faults.Full full) is)

pub returns-clause-opens : goal.returns-clause-opens
returns-clause-opens g c = c.areas_are_opened_in_order.ensures.five c.args.bench.now c.begin.new.bench c.begin-2.new.bench c.begin-3.new.bench c.begin-4.new.bench c.begin-5.new.bench c.begin.ensures.opens c.begin-2.ensures.opens c.begin-3.ensures.opens c.begin-4.ensures.opens c.begin-5.ensures.opens

pub returns-clause-opened : goal.returns-clause-opened
returns-clause-opened g c =
    let O = g.B.Bench.outside in
    let lists : Lists = by_area c.in-Ok.ensures.opened.0 c.in-Ok-begin.ensures.opened.0 c.in-Ok-begin-2.ensures.opened.0 c.in-Ok-begin-3.ensures.opened.0 c.in-Ok-begin-4.ensures.opened.0 in
    let whole : Managed → Owned = λ m. record { store = c.in-Ok.store; manager = m; backups = c.in-Ok-begin-4.backups } in
    let made : Managed = record { links = c.in-Ok-begin.branches; files = c.in-Ok-begin-2.files; archive = c.in-Ok-begin-3.archive } in
    let P : Managed → Type 0 = λ m. (ls : Lists) × AreOpened 5 c.args.limit (journals_of (whole m)) ls (O c.args.bench.now) (O c.begin-5.new.bench) × AreFolded ls (folds_in (whole m)) in
    subst P (sym c.new-manager.ensures) (lists, c.open_areas_have_their_lists.ensures.five c.args.limit (journals_of (whole made)) lists c.args.bench.now c.begin.new.bench c.begin-2.new.bench c.begin-3.new.bench c.begin-4.new.bench c.begin-5.new.bench c.begin.ensures.opens c.in-Ok.ensures.opened.1 c.begin-2.ensures.opens c.in-Ok-begin.ensures.opened.1 c.begin-3.ensures.opens c.in-Ok-begin-2.ensures.opened.1 c.begin-4.ensures.opens c.in-Ok-begin-3.ensures.opened.1 c.begin-5.ensures.opens c.in-Ok-begin-4.ensures.opened.1, record { rows = c.in-Ok.ensures.opened.2; links = c.in-Ok-begin.ensures.opened.2; files = c.in-Ok-begin-2.ensures.opened.2; copies = c.in-Ok-begin-3.ensures.opened.2; backups = c.in-Ok-begin-4.ensures.opened.2 })
