use Rattle.std.proofs.Common.{◌≡◌, ◌∷◌, [], ap, is_some, sym, subst, ◌∙◌, Some, None, Result, Err, rules, arith}
use Rattle.std.specs.Result.{result_err}
use Rattle.dl_areas.specs.Batch.{writes_in}
use Rattle.dl_areas.specs.Writing.{DoesAlone, EndsAlone}
use Rattle.dl_base.specs.declared.area.Area.TheVariants as areas
use Rattle.dl_base.specs.declared.fault.AppendFault.{AppendFault}
use Rattle.dl_base.specs.declared.fault.StepFault.{StepFault}
use Rattle.dl_base.specs.declared.fault.StepFault.TheVariants as steps
use Rattle.dl_journal.specs.Extent.{Extent}
use Rattle.fs_files.specs.Batch.{batch_write}
use Rattle.fs_files.specs.Store.{extent}
use Rattle.fs_files.proofs.Alone.{does-asked, full-asked, room-asked, device-asked}
use Rattle.fs_files.proofs.Writing.{ask, asked-images, asked-kept, asked-taken}
use Rattle.meaning_areas.specs.FilesArea.{writes}
use Rattle.std.proofs.lemmas.Grind.{common_steps}
use Rattle.fs_files.proofs.store.Files.apply.Goals as goal

pub batch-requires-clause-taken : goal.batch-requires-clause-taken
batch-requires-clause-taken g c =
    let a = ask c.args.self.now c.made.new.self c.args.cmd c.in_ok-made.made c.in_ok-changes.changes c.requires.accepted c.requires.writing c.made.ensures.same c.in_ok-made.ensures.value c.in_ok-changes.ensures in
    ap is_some (asked-taken c.args.self.now c.made.new.self c.args.cmd c.in_ok-made.made a)

pub returns-in-Ok-clause-images : goal.returns-in-Ok-clause-images
returns-in-Ok-clause-images g c =
    let a = ask c.args.self.now c.made.new.self c.args.cmd c.in_ok-made.made c.in_ok-changes.changes c.requires.accepted c.requires.writing c.made.ensures.same c.in_ok-made.ensures.value c.in_ok-changes.ensures in
    asked-images c.args.self.now c.made.new.self c.args.cmd c.in_ok-made.made a (g.B.Bench.outside c.args.bench.now) (g.B.Bench.outside c.batch.new.bench) c.batch.ensures.images

pub returns-in-Ok-clause-kept : goal.returns-in-Ok-clause-kept
returns-in-Ok-clause-kept g c =
    let a = ask c.args.self.now c.made.new.self c.args.cmd c.in_ok-made.made c.in_ok-changes.changes c.requires.accepted c.requires.writing c.made.ensures.same c.in_ok-made.ensures.value c.in_ok-changes.ensures in
    asked-kept c.args.self.now c.made.new.self c.args.cmd c.in_ok-made.made a c.batch.new.self (g.B.Bench.outside c.args.bench.now) (g.B.Bench.outside c.batch.new.bench) c.in-Ok.ensures.kept

pub returns-in-Err-clause-images : goal.returns-in-Err-clause-images
returns-in-Err-clause-images g c =
    let a = ask c.args.self.now c.made.new.self c.args.cmd c.in_ok-made.made c.in_ok-changes.changes c.requires.accepted c.requires.writing c.made.ensures.same c.in_ok-made.ensures.value c.in_ok-changes.ensures in
    asked-images c.args.self.now c.made.new.self c.args.cmd c.in_ok-made.made a (g.B.Bench.outside c.args.bench.now) (g.B.Bench.outside c.batch.new.bench) c.batch.ensures.images

pub returns-in_err-changes-clause-ends : goal.returns-in_err-changes-clause-ends
returns-in_err-changes-clause-ends g c =
    let O = g.B.Bench.outside in
    let j = extent c.args.self.now in
    let ws = writes_in areas.Files (writes c.args.self.now.files c.args.cmd) in
    let is : c.from_residual.result ≡ Err steps.Memory = search rules in
    subst (λ (r : Result Unit StepFault). EndsAlone j j ws (result_err r) (O c.args.bench.now) (O c.args.bench.now)) (sym is) (c.steps_end_so.ensures.alone_memory j ws c.args.bench.now)

pub returns-in_err-made-clause-ends : goal.returns-in_err-made-clause-ends
returns-in_err-made-clause-ends g c =
    let O = g.B.Bench.outside in
    let j = extent c.args.self.now in
    let ws = writes_in areas.Files (writes c.args.self.now.files c.args.cmd) in
    let is : c.from_residual-in_err-made.result ≡ Err steps.Memory = search rules in
    subst (λ (r : Result Unit StepFault). EndsAlone j (extent c.made.new.self) ws (result_err r) (O c.args.bench.now) (O c.args.bench.now)) (sym is)
    (subst (λ (k : Extent). EndsAlone j k ws (Some steps.Memory) (O c.args.bench.now) (O c.args.bench.now)) (sym (ap extent c.made.ensures.same)) (c.steps_end_so.ensures.alone_memory j ws c.args.bench.now))

pub returns-in-Ok-clause-ends : goal.returns-in-Ok-clause-ends
returns-in-Ok-clause-ends g c =
    let O = g.B.Bench.outside in
    let a = ask c.args.self.now c.made.new.self c.args.cmd c.in_ok-made.made c.in_ok-changes.changes c.requires.accepted c.requires.writing c.made.ensures.same c.in_ok-made.ensures.value c.in_ok-changes.ensures in
    let d = subst (λ (r : Result Unit AppendFault). DoesAlone (extent c.made.new.self) (extent c.batch.new.self) (batch_write c.in_ok-made.made ∷ []) (result_err r) (O c.args.bench.now) (O c.batch.new.bench)) c.in-Ok.is c.batch.ensures.does in
    c.steps_end_so.ensures.alone (extent c.args.self.now) (extent c.batch.new.self) (writes_in areas.Files (writes c.args.self.now.files c.args.cmd)) None c.args.bench.now c.batch.new.bench
    (does-asked c.args.self.now c.made.new.self c.args.cmd c.in_ok-made.made a c.batch.new.self (O c.args.bench.now) (O c.batch.new.bench) None d)

pub returns-in-Err-clause-ends : goal.returns-in-Err-clause-ends
returns-in-Err-clause-ends g c =
    let O = g.B.Bench.outside in
    let a = ask c.args.self.now c.made.new.self c.args.cmd c.in_ok-made.made c.in_ok-changes.changes c.requires.accepted c.requires.writing c.made.ensures.same c.in_ok-made.ensures.value c.in_ok-changes.ensures in
    let d = subst (λ (r : Result Unit AppendFault). DoesAlone (extent c.made.new.self) (extent c.batch.new.self) (batch_write c.in_ok-made.made ∷ []) (result_err r) (O c.args.bench.now) (O c.batch.new.bench)) c.in-Err.is c.batch.ensures.does in
    let ws = writes_in areas.Files (writes c.args.self.now.files c.args.cmd) in
    subst (λ (e : StepFault). EndsAlone (extent c.args.self.now) (extent c.batch.new.self) ws (Some e) (O c.args.bench.now) (O c.batch.new.bench)) (sym c.from.ensures)
    (c.steps_end_so.ensures.alone (extent c.args.self.now) (extent c.batch.new.self) ws (Some c.in-Err.fault) c.args.bench.now c.batch.new.bench
    (does-asked c.args.self.now c.made.new.self c.args.cmd c.in_ok-made.made a c.batch.new.self (O c.args.bench.now) (O c.batch.new.bench) (Some c.in-Err.fault) d))

pub returns-in-Err-clause-full : goal.returns-in-Err-clause-full
returns-in-Err-clause-full g c full is =
    let O = g.B.Bench.outside in
    let a = ask c.args.self.now c.made.new.self c.args.cmd c.in_ok-made.made c.in_ok-changes.changes c.requires.accepted c.requires.writing c.made.ensures.same c.in_ok-made.ensures.value c.in_ok-changes.ensures in
    let d = subst (λ (r : Result Unit AppendFault). DoesAlone (extent c.made.new.self) (extent c.batch.new.self) (batch_write c.in_ok-made.made ∷ []) (result_err r) (O c.args.bench.now) (O c.batch.new.bench)) c.in-Err.is c.batch.ensures.does in
    let e : c.from.result ≡ steps.Full full = cc in
    full-asked c.args.self.now c.made.new.self c.args.cmd c.in_ok-made.made a c.batch.new.self (O c.args.bench.now) (O c.batch.new.bench) c.requires.ready c.in-Err.fault full d (sym c.from.ensures ∙ e)

pub returns-in-Ok-clause-unwritten : goal.returns-in-Ok-clause-unwritten
returns-in-Ok-clause-unwritten g c passes =
    let O = g.B.Bench.outside in
    let a = ask c.args.self.now c.made.new.self c.args.cmd c.in_ok-made.made c.in_ok-changes.changes c.requires.accepted c.requires.writing c.made.ensures.same c.in_ok-made.ensures.value c.in_ok-changes.ensures in
    let d = subst (λ (r : Result Unit AppendFault). DoesAlone (extent c.made.new.self) (extent c.batch.new.self) (batch_write c.in_ok-made.made ∷ []) (result_err r) (O c.args.bench.now) (O c.batch.new.bench)) c.in-Ok.is c.batch.ensures.does in
    absurd (room-asked c.args.self.now c.made.new.self c.args.cmd c.in_ok-made.made a c.batch.new.self (O c.args.bench.now) (O c.batch.new.bench) c.requires.ready d passes)

pub returns-in-Err-clause-device : goal.returns-in-Err-clause-device
returns-in-Err-clause-device g c is =
    let O = g.B.Bench.outside in
    let a = ask c.args.self.now c.made.new.self c.args.cmd c.in_ok-made.made c.in_ok-changes.changes c.requires.accepted c.requires.writing c.made.ensures.same c.in_ok-made.ensures.value c.in_ok-changes.ensures in
    let d = subst (λ (r : Result Unit AppendFault). DoesAlone (extent c.made.new.self) (extent c.batch.new.self) (batch_write c.in_ok-made.made ∷ []) (result_err r) (O c.args.bench.now) (O c.batch.new.bench)) c.in-Err.is c.batch.ensures.does in
    let e : c.from.result ≡ steps.Device = cc in
    device-asked c.args.self.now c.made.new.self c.args.cmd c.in_ok-made.made a c.batch.new.self (O c.args.bench.now) (O c.batch.new.bench) c.requires.ready c.in-Err.fault d (sym c.from.ensures ∙ e)

pub batch-requires-clause-room : goal.batch-requires-clause-room
batch-requires-clause-room g c = grind (arith, common_steps)

pub returns-in-Ok-clause-limit : goal.returns-in-Ok-clause-limit
returns-in-Ok-clause-limit g c = grind (arith, common_steps)

pub returns-in-Err-clause-unwritten : goal.returns-in-Err-clause-unwritten
returns-in-Err-clause-unwritten g c = grind (arith, common_steps)

pub returns-in-Ok-clause-device : goal.returns-in-Ok-clause-device
returns-in-Ok-clause-device g c = grind (arith, common_steps)

pub returns-in-Ok-clause-memory : goal.returns-in-Ok-clause-memory
returns-in-Ok-clause-memory g c = grind (arith, common_steps)

pub returns-in-Ok-clause-files : goal.returns-in-Ok-clause-files
returns-in-Ok-clause-files g c = grind (arith, common_steps)

pub returns-in-Ok-clause-ready : goal.returns-in-Ok-clause-ready
returns-in-Ok-clause-ready g c = grind (arith, common_steps)

pub returns-in-Err-clause-memory : goal.returns-in-Err-clause-memory
returns-in-Err-clause-memory g c = grind (arith, common_steps)

pub returns-in-Err-clause-limit : goal.returns-in-Err-clause-limit
returns-in-Err-clause-limit g c = grind (arith, common_steps)

pub returns-in-Ok-clause-spelled : goal.returns-in-Ok-clause-spelled
returns-in-Ok-clause-spelled g c = grind (arith, common_steps)

pub returns-in-Err-clause-spelled : goal.returns-in-Err-clause-spelled
returns-in-Err-clause-spelled g c = grind (arith, common_steps)

pub returns-in-Err-clause-err : goal.returns-in-Err-clause-err
returns-in-Err-clause-err g c = grind (arith, common_steps)

pub batch-requires-clause-ready : goal.batch-requires-clause-ready
batch-requires-clause-ready g c = grind (arith, common_steps)
