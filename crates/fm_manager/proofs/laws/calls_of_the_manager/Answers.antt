use Rattle.std.proofs.Common.{[], None, subst, sym}
use Rattle.dl_areas.specs.Lists.{Journals}
use Rattle.dl_areas.specs.Writing.{Does}
use Rattle.fm_manager.proofs.Managing.{links-manages, files-manages, archive-manages, links-ends, files-ends, manages-then}
use Rattle.fm_manager.proofs.laws.calls_of_the_manager.Goals as goal

pub returns-clause-links : goal.returns-clause-links
returns-clause-links g c m l ws fault o n = let O = g.B.Bench.outside in links-manages m (O o) (O n) ws l fault

pub returns-clause-files : goal.returns-clause-files
returns-clause-files g c m f ws fault o n = let O = g.B.Bench.outside in files-manages m (O o) (O n) ws f fault

pub returns-clause-archive : goal.returns-clause-archive
returns-clause-archive g c m a ws fault o n = let O = g.B.Bench.outside in archive-manages m (O o) (O n) ws a fault

pub returns-clause-links_step : goal.returns-clause-links_step
returns-clause-links_step g c m l ws fault o n = let O = g.B.Bench.outside in links-ends m (O o) (O n) ws l fault

pub returns-clause-files_step : goal.returns-clause-files_step
returns-clause-files_step g c m f ws fault o n = let O = g.B.Bench.outside in files-ends m (O o) (O n) ws f fault

pub returns-clause-none : goal.returns-clause-none
returns-clause-none g c m o = record {
  opens = λ ok was. was;
  does = λ js ready is. let O = g.B.Bench.outside in subst (λ (ks : Journals). Does js ks [] None (O o) (O o)) (sym is) (c.calls_follow_one_another.ensures.none js o);
}

pub returns-clause-then : goal.returns-clause-then
returns-clause-then g c m k n ws vs fault o p e =
    let O = g.B.Bench.outside in
    manages-then m k n ws vs fault (O o) (O p) (O e) (λ js ks ls. c.calls_follow_one_another.ensures.then js ks ls ws vs fault o p e)

pub returns-clause-stop : goal.returns-clause-stop
returns-clause-stop g c m n ws vs fault o e d = record {
  opens = λ ok. absurd cc;
  does = λ js ready is. c.calls_follow_one_another.ensures.stop js _ ws vs fault o e (d.does js ready is);
}
