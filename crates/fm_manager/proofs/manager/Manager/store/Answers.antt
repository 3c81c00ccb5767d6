use Rattle.std.proofs.Common.{[], ◌∷◌, sym, subst}
use Rattle.dl_codec.specs.declared.archive.ArchiveRecord.TheVariants as records
use Rattle.meaning_areas.specs.Lists.{in_archive}
use Rattle.fm_manager.proofs.Storing.{copy-new}
use Rattle.fm_manager.specs.Managed.{IsTakenBy, Managed}
use Rattle.fm_manager.proofs.manager.Manager.store.Goals as goal

pub store-requires-clause-new : goal.store-requires-clause-new
store-requires-clause-new g c =
    copy-new (record { links = c.self.inside.branches; files = c.self.inside.files; archive = c.self.inside.archive }) c.args.copy []
    (subst (λ (m : Managed). IsTakenBy m (in_archive (records.Copy c.args.copy) ∷ [])) (sym c.self.view_is) c.requires.taken)
