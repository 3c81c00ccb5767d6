use Rattle.std.proofs.Common.{◌≡◌, ℕ, [], ◌∷◌, sym, ◌∙◌, subst, arith}
use Rattle.dl_base.specs.Outside.{replaced}
use Rattle.dl_journal.proofs.Writes.{written_gate, was_there, no_shorter}
use Rattle.dl_journal.proofs.Steps.{on_gate, stays}
use Rattle.dl_journal.proofs.append.open_gate.Goals as goal

pub returns-in_err-write-clause-images : goal.returns-in_err-write-clause-images
returns-in_err-write-clause-images g c = on_gate _ _ _ _ c.write.ensures.crash

pub returns-in_err-sync-clause-images : goal.returns-in_err-sync-clause-images
returns-in_err-sync-clause-images g c = stays _ _ _ _ _ (on_gate _ _ _ _ c.write.ensures.crash) c.sync.ensures.crash

pub returns-clause-images : goal.returns-clause-images
returns-clause-images g c = stays _ _ _ _ _ (on_gate _ _ _ _ c.write.ensures.crash) c.sync.ensures.crash

pub returns-clause-added : goal.returns-clause-added
returns-clause-added g c = λ bodies body fits all d left.
    let is = c.in_ok-sync.ensures.durable d left in
    let was = was_there c.args.place (1 ∷ []) _ d (sym c.in_ok-write.ensures.written ∙ is) in
    let law = g.met.B.Bench.lawful c.args.bench.now in
    written_gate bodies body was.0 d (all was.0 (law.as_it_reads c.args.area was.0 was.1)) (subst (λ (k : ℕ). replaced k (1 ∷ []) was.0 ≡ d) (sym fits) was.2)

pub returns-clause-reaches : goal.returns-clause-reaches
returns-clause-reaches g c = λ n reached s is.
    let was = was_there c.args.place (1 ∷ []) ((g.B.Bench.outside c.args.bench.now).reads c.args.area) s (sym c.in_ok-write.ensures.written ∙ sym c.sync.ensures.same ∙ is) in
    omega (arith, reached was.0 was.1, no_shorter c.args.place (1 ∷ []) was.0 s (omega (arith, c.requires.reaches was.0 was.1)) was.2)
