use Rattle.std.proofs.Common.{◌∙◌, sym}
use Rattle.sys_records.proofs.Voting.{no-pieces, pieces-made}
use Rattle.sys_records.proofs.vote.pieces_of.Goals as goal

pub returns-then-not-has_links-clause-pieces : goal.returns-then-not-has_links-clause-pieces
returns-then-not-has_links-clause-pieces c s t files copies gives takes there =
    no-pieces s t c.args.manager.now c.args.claim.now.gives c.args.claim.now.takes files copies gives takes (sym c.has_links.ensures ∙ c.if-not-has_links.true)

pub returns-clause-pieces : goal.returns-clause-pieces
returns-clause-pieces c s t files copies gives takes there =
    pieces-made s t c.args.manager.now c.args.claim.now.gives c.args.claim.now.takes files copies gives takes c.pieces_as_they_are_made.ensures.made
    c.args.tx c.in_ok-pieces.pieces (sym c.has_links.ensures ∙ c.if-not-has_links.false) c.in_ok-pieces.ensures.tx c.in_ok-pieces.ensures.pieces there
