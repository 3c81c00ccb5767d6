use Rattle.std.proofs.Common.{[], ◌∷◌, sym, subst}
use Rattle.std.specs.Result.{result_err}
use Rattle.dl_codec.specs.declared.links.LinksRecord.TheVariants as records
use Rattle.meaning_areas.specs.Lists.{in_links}
use Rattle.fm_manager.proofs.Folding.{links-taken}
use Rattle.fm_manager.specs.Managed.{IsTakenBy, Managed, Manages, as_writes}
use Rattle.fm_manager.proofs.manager.Manager.done.Goals as goal

pub done-requires-clause-taken : goal.done-requires-clause-taken
done-requires-clause-taken g c =
    links-taken (record { links = c.self.inside.branches; files = c.self.inside.files; archive = c.self.inside.archive }) (records.Done c.args.tx) []
    (subst (λ (m : Managed). IsTakenBy m (in_links (records.Done c.args.tx) ∷ [])) (sym c.self.view_is) c.requires.taken)

pub returns-clause-does : goal.returns-clause-does
returns-clause-does g c =
    let O = g.B.Bench.outside in
    let later : Managed = record { links = c.done.new.self; files = c.self.inside.files; archive = c.self.inside.archive } in
    subst (λ (m : Managed). Manages m later (as_writes (in_links (records.Done c.args.tx) ∷ [])) (result_err c.done.result) (O c.args.bench.now) (O c.done.new.bench)) c.self.view_is
    (c.calls_of_the_manager.ensures.links (record { links = c.self.inside.branches; files = c.self.inside.files; archive = c.self.inside.archive }) c.done.new.self
    (as_writes (in_links (records.Done c.args.tx) ∷ [])) (result_err c.done.result) c.args.bench.now c.done.new.bench c.done.ensures.does)
