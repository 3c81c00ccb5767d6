use Rattle.std.proofs.Common.{sym, ◌∙◌}
use Rattle.sys_records.proofs.PuttingBack.{has-made}
use Rattle.sys_records.specs.Restoring.{moving}
use Rattle.sys_records.proofs.restoring.pieces_for.Goals as goal

pub returns-then-not-moves_links-clause-pieces : goal.returns-then-not-moves_links-clause-pieces
returns-then-not-moves_links-clause-pieces c = sym c.moves_links.ensures ∙ c.if-not-moves_links.true

pub returns-clause-pieces : goal.returns-clause-pieces
returns-clause-pieces c =
    has-made c.args.manager.now c.pieces.new.self c.args.tx (moving c.args.gives.now c.args.takes.now c.args.fill) c.in_ok-pieces.pieces c.pieces.ensures.same
    (sym c.moves_links.ensures ∙ c.if-not-moves_links.false) c.in_ok-pieces.ensures.tx c.in_ok-pieces.ensures.pieces c.in_ok-pieces.ensures.room
