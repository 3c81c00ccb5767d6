use Rattle.std.proofs.Common.{ap, ◌∙◌}
use Rattle.meaning_settling.specs.Keyed.{Keyed}
use Rattle.fm_links.specs.Claims.{PathClaim, laid, moved, without_claim}
use Rattle.fm_links.proofs.Moving.{laid-claim}
use Rattle.fm_links.proofs.claims.Claims.replace.Goals as goal

pub returns-clause-ok : goal.returns-clause-ok
returns-clause-ok c =
    let old = moved c.args.old_gives.now c.args.old_takes.now in
    c.lay.ensures
    ∙ ap (λ (m : Keyed PathClaim). laid c.in_ok-made.made.entries m) (c.drop.ensures.claims ∙ ap (λ (m : Keyed PathClaim). without_claim old m) c.in_ok-make_room.ensures.claims)
    ∙ laid-claim c.in_ok-made.made.entries c.len.ensures.ordered c.args.tx (moved c.args.gives.now c.args.takes.now) c.in_ok-made.ensures (without_claim old c.args.self.now.claims)
