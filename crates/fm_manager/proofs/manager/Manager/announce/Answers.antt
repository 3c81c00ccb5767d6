use Rattle.std.proofs.Common.{◌+◌, [], ◌∷◌, subst}
use Rattle.std.specs.Result.{result_err}
use Rattle.dl_codec.specs.declared.links.LinksRecord.TheVariants as records
use Rattle.meaning_areas.specs.Lists.{in_links}
use Rattle.fm_manager.specs.Managed.{Managed, Manages, as_writes}
use Rattle.fm_manager.proofs.manager.Manager.announce.Goals as goal

pub returns-clause-does : goal.returns-clause-does
returns-clause-does g c =
    let O = g.B.Bench.outside in
    let later : Managed = record { links = c.announce.new.self; files = c.self.inside.files; archive = c.self.inside.archive } in
    subst (λ (m : Managed). Manages m later (as_writes (in_links (records.Opening (m.links.links.opening + 1)) ∷ [])) (result_err c.announce.result) (O c.args.bench.now) (O c.announce.new.bench)) c.self.view_is
    (c.calls_of_the_manager.ensures.links (record { links = c.self.inside.branches; files = c.self.inside.files; archive = c.self.inside.archive }) c.announce.new.self
    (as_writes (in_links (records.Opening (c.self.inside.branches.links.opening + 1)) ∷ [])) (result_err c.announce.result) c.args.bench.now c.announce.new.bench c.announce.ensures.does)
