use Rattle.std.proofs.Common.{refl, sym, ◌∙◌, subst}
use Rattle.dl_codec.specs.declared.links.BranchPhase.{BranchPhase}
use Rattle.meaning_settling.specs.Settling.{Moved}
use Rattle.fm_manager.proofs.Parts.{are-of}
use Rattle.fm_manager.specs.Managed.{Managed, kept_in}
use Rattle.fm_manager.specs.Pieces.{AreOf, IsDoubtful, Pieces}
use Rattle.fm_manager.proofs.manager.Manager.pieces_left.Goals as goal

pub returns-clause-some : goal.returns-clause-some
returns-clause-some c =
    let m : Managed = record { links = c.self.inside.branches; files = c.self.inside.files; archive = c.self.inside.archive } in
    let b = c.in_Some-branch.branch in
    let moved : Moved = record { gives = b.gives.now; takes = b.takes.now; fill = b.fill } in
    let q : Pieces = record { tx = c.args.tx; copies = c.in_ok-copies.copies; changes = c.in_ok-changes.changes } in
    subst (λ (k : Managed). (moved : Moved) × (phase : BranchPhase) × IsDoubtful k c.args.tx moved phase × AreOf c.in_ok-made.field-0 moved (kept_in k)) c.self.view_is (
      moved,
      b.phase,
      record { is = sym c.in_Some-branch.ensures; open_phase = sym c.is_in_doubt.ensures ∙ c.if-not-is_in_doubt.false },
      are-of c.in_ok-made.field-0 q moved (kept_in m) c.in_ok-made.ensures.pieces (c.in_ok-copies.ensures moved (kept_in m) refl refl refl) (c.in_ok-changes.ensures (kept_in m) refl refl),
    )
