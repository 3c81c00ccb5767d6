use Rattle.std.proofs.Common.{[], ◌∷◌, sym, subst}
use Rattle.dl_codec.specs.declared.links.LinksRecord.TheVariants as records
use Rattle.meaning_areas.specs.Lists.{in_links}
use Rattle.fm_manager.proofs.Folding.{links-taken}
use Rattle.fm_manager.specs.Managed.{IsTakenBy, Managed}
use Rattle.fm_manager.proofs.manager.Manager.prepare.Goals as goal

pub prepare-requires-clause-taken : goal.prepare-requires-clause-taken
prepare-requires-clause-taken g c =
    links-taken (record { links = c.self.inside.branches; files = c.self.inside.files; archive = c.self.inside.archive }) (records.Prepared c.args.tx c.args.gives c.args.takes) []
    (subst (λ (m : Managed). IsTakenBy m (in_links (records.Prepared c.args.tx c.args.gives c.args.takes) ∷ [])) (sym c.self.view_is) c.requires.taken)
