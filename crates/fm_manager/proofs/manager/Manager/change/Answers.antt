use Rattle.std.proofs.Common.{Option, sym, subst}
use Rattle.meaning_areas.specs.Finishing.{batch_of}
use Rattle.fs_files.specs.Batch.{Batch}
use Rattle.fm_manager.proofs.Folding.{batch-taken}
use Rattle.fm_manager.specs.Managed.{IsTakenBy, Managed}
use Rattle.fm_manager.specs.Pieces.{IsBatchOf, changes_in}
use Rattle.fm_manager.proofs.manager.Manager.change.Goals as goal

pub batch-requires-clause-taken : goal.batch-requires-clause-taken
batch-requires-clause-taken g c =
    let m : Managed = record { links = c.self.inside.branches; files = c.self.inside.files; archive = c.self.inside.archive } in
    batch-taken m c.args.tx c.in-Some.made (subst (λ (o : Option Batch). IsBatchOf c.args.tx o) c.in-Some.is c.requires.batch)
    (subst (λ (o : Option Batch). IsTakenBy m (batch_of c.args.tx (changes_in o))) c.in-Some.is
    (subst (λ (k : Managed). IsTakenBy k (batch_of c.args.tx (changes_in c.args.changes))) (sym c.self.view_is) c.requires.taken))
