use Rattle.std.proofs.Common.{IfOk, refl, subst}
use Rattle.meaning_settling.specs.Settling.{Moved}
use Rattle.fm_manager.proofs.Parts.{are-of, if-ok}
use Rattle.fm_manager.specs.Managed.{Managed, kept_in}
use Rattle.fm_manager.specs.Pieces.{AreOf, Pieces}
use Rattle.fm_manager.proofs.manager.Manager.pieces.Goals as goal

pub returns-clause-pieces : goal.returns-clause-pieces
returns-clause-pieces c =
    let m : Managed = record { links = c.self.inside.branches; files = c.self.inside.files; archive = c.self.inside.archive } in
    let moved : Moved = record { gives = c.args.gives.now; takes = c.args.takes.now; fill = c.args.fill } in
    let q : Pieces = record { tx = c.args.tx; copies = c.in_ok-copies.copies; changes = c.in_ok-changes.changes } in
    subst (λ (k : Managed). IfOk c.made.result (λ p. AreOf p moved (kept_in k))) c.self.view_is
    (if-ok c.made.result c.made.ensures.pieces (λ p is. are-of p q moved (kept_in m) is (c.in_ok-copies.ensures moved (kept_in m) refl refl refl) (c.in_ok-changes.ensures (kept_in m) refl refl)))
