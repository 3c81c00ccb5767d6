use Rattle.std.proofs.Common.{◌≡◌, List, length, ap, sym, ◌∙◌, arith}
use Rattle.dl_base.specs.declared.file.FileChange.{FileChange}
use Rattle.fs_files.specs.Batch.{batch_record}
use Rattle.fs_files.proofs.Writing.{holds_after, step-batch, writes_record}
use Rattle.meaning_files.specs.Files.{with_changes}
use Rattle.std.proofs.lemmas.Grind.{common_steps}
use Rattle.fs_files.proofs.store.Files.batch.Goals as goal

pub returns-in-Ok-clause-folds : goal.returns-in-Ok-clause-folds
returns-in-Ok-clause-folds g c = step-batch c.args.self.now.files c.args.made c.parts-changes.ensures.fits

pub returns-in-Err-clause-folds : goal.returns-in-Err-clause-folds
returns-in-Err-clause-folds g c = step-batch c.args.self.now.files c.args.made c.parts-changes.ensures.fits

pub returns-in-Ok-clause-images : goal.returns-in-Ok-clause-images
returns-in-Ok-clause-images g c =
    let spelled : c.as_slice.result.now ≡ batch_record c.args.made = c.as_slice.ensures ∙ c.parts-changes.ensures.body in
    writes_record c.args.self.now c.self.inside.journal c.self.inside.table.files c.self.inside.table.spare c.args.made c.as_slice.result.now
    (g.B.Bench.outside c.args.bench.now) (g.B.Bench.outside c.write.new.bench)
    c.self.view_is c.self.invariant c.parts-changes.ensures.fits spelled c.write.ensures.images

pub returns-in-Err-clause-images : goal.returns-in-Err-clause-images
returns-in-Err-clause-images g c =
    let spelled : c.as_slice.result.now ≡ batch_record c.args.made = c.as_slice.ensures ∙ c.parts-changes.ensures.body in
    writes_record c.args.self.now c.self.inside.journal c.self.inside.table.files c.self.inside.table.spare c.args.made c.as_slice.result.now
    (g.B.Bench.outside c.args.bench.now) (g.B.Bench.outside c.write.new.bench)
    c.self.view_is c.self.invariant c.parts-changes.ensures.fits spelled c.write.ensures.images

pub returns-in-Ok-clause-kept : goal.returns-in-Ok-clause-kept
returns-in-Ok-clause-kept g c =
    let spelled : c.as_slice.result.now ≡ batch_record c.args.made = c.as_slice.ensures ∙ c.parts-changes.ensures.body in
    holds_after c.args.self.now c.self.inside.journal c.write.new.journal c.self.inside.table.files c.make_batch.new.table.files c.self.inside.table.spare c.make_batch.new.table.spare
    c.args.made c.as_slice.result.now (length c.as_slice.result.now)
    (g.B.Bench.outside c.args.bench.now) (g.B.Bench.outside c.write.new.bench)
    c.self.view_is c.self.invariant c.in-Ok.ensures.ok c.parts-changes.ensures.fits spelled
    c.in-Ok.ensures.kept (ap (λ (cs : List FileChange). with_changes c.self.inside.table.files cs) (sym c.parts-changes.ensures.changes) ∙ c.make_batch.ensures.files)

pub returns-in-Ok-clause-does : goal.returns-in-Ok-clause-does
returns-in-Ok-clause-does g c = grind (arith, common_steps)

pub returns-in-Ok-clause-unwritten : goal.returns-in-Ok-clause-unwritten
returns-in-Ok-clause-unwritten g c = grind (arith, common_steps)

pub write-requires : goal.write-requires
write-requires g c = grind (arith, common_steps)

pub returns-in-Err-clause-err : goal.returns-in-Err-clause-err
returns-in-Err-clause-err g c = grind (arith, common_steps)

pub invariant_of-self-in-Err-1 : goal.invariant_of-self-in-Err-1
invariant_of-self-in-Err-1 g c = grind (arith, common_steps)

pub returns-in-Ok-clause-files : goal.returns-in-Ok-clause-files
returns-in-Ok-clause-files g c = grind (arith, common_steps)

pub returns-in-Ok-clause-limit : goal.returns-in-Ok-clause-limit
returns-in-Ok-clause-limit g c = grind (arith, common_steps)

pub make_batch-requires-clause-room : goal.make_batch-requires-clause-room
make_batch-requires-clause-room g c = grind (arith, common_steps)

pub returns-in-Ok-clause-spare : goal.returns-in-Ok-clause-spare
returns-in-Ok-clause-spare g c = grind (arith, common_steps)

pub returns-in-Err-clause-unwritten : goal.returns-in-Err-clause-unwritten
returns-in-Err-clause-unwritten g c = grind (arith, common_steps)

pub invariant_of-self : goal.invariant_of-self
invariant_of-self g c = grind (arith, common_steps)

pub returns-in-Err-clause-limit : goal.returns-in-Err-clause-limit
returns-in-Err-clause-limit g c = grind (arith, common_steps)

pub returns-in-Err-clause-does : goal.returns-in-Err-clause-does
returns-in-Err-clause-does g c = grind (arith, common_steps)
