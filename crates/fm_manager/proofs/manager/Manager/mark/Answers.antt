use Rattle.std.proofs.Common.{[], ◌∷◌, List, Bool, None, ap, sym, ◌∙◌, subst}
use Rattle.std.specs.Result.{result_err}
use Rattle.dl_codec.specs.declared.links.LinksRecord.TheVariants as records
use Rattle.meaning_areas.specs.Lists.{Written, in_links}
use Rattle.fm_manager.proofs.Folding.{may-commit}
use Rattle.fm_manager.specs.Managed.{Managed, Manages, as_writes}
use Rattle.fm_manager.specs.Pieces.{IsDoubtful, marks_if}
use Rattle.fm_manager.proofs.manager.Manager.mark.Goals as goal

pub returns-then-not-is_prepared-clause-does : goal.returns-then-not-is_prepared-clause-does
returns-then-not-is_prepared-clause-does g c moved phase d =
    let O = g.B.Bench.outside in
    subst (λ (xs : List Written). Manages c.args.self.now c.args.self.now (as_writes xs) None (O c.args.bench.now) (O c.args.bench.now))
    (sym (c.is_prepared.ensures moved phase d ∙ ap (λ (b : Bool). marks_if b c.args.tx) c.if-not-is_prepared.true))
    (c.calls_of_the_manager.ensures.none c.args.self.now c.args.bench.now)

pub commit-requires-clause-taken : goal.commit-requires-clause-taken
commit-requires-clause-taken g c =
    let m : Managed = record { links = c.self.inside.branches; files = c.self.inside.files; archive = c.self.inside.archive } in
    let d = c.requires.doubtful in
    may-commit m c.args.tx d.0 d.1 (subst (λ (k : Managed). IsDoubtful k c.args.tx d.0 d.1) (sym c.self.view_is) d.2)
    (c.is_prepared.ensures d.0 d.1 d.2 ∙ ap (λ (b : Bool). marks_if b c.args.tx) c.if-not-is_prepared.false)

pub returns-clause-does : goal.returns-clause-does
returns-clause-does g c moved phase d =
    let O = g.B.Bench.outside in
    let later : Managed = record { links = c.commit.new.self; files = c.self.inside.files; archive = c.self.inside.archive } in
    let ends = O c.commit.new.bench in
    subst (λ (xs : List Written). Manages c.args.self.now later (as_writes xs) (result_err c.commit.result) (O c.args.bench.now) ends)
    (sym (c.is_prepared.ensures moved phase d ∙ ap (λ (b : Bool). marks_if b c.args.tx) c.if-not-is_prepared.false))
    (subst (λ (m : Managed). Manages m later (as_writes (in_links (records.Committed c.args.tx) ∷ [])) (result_err c.commit.result) (O c.args.bench.now) ends) c.self.view_is
    (c.calls_of_the_manager.ensures.links (record { links = c.self.inside.branches; files = c.self.inside.files; archive = c.self.inside.archive }) c.commit.new.self
    (as_writes (in_links (records.Committed c.args.tx) ∷ [])) (result_err c.commit.result) c.args.bench.now c.commit.new.bench c.commit.ensures.does))
