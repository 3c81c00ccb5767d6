use Rattle.std.proofs.Common.{ap, ◌∙◌}
use Rattle.meaning_settling.specs.Keyed.{Keyed}
use Rattle.fm_links.specs.Claims.{PathClaim, unclaimed}
use Rattle.fm_links.proofs.Moving.{unclaimed-both}
use Rattle.fm_links.proofs.claims.Claims.drop.Goals as goal

pub returns-clause-claims : goal.returns-clause-claims
returns-clause-claims c =
    c.drop_all-2.ensures.claims ∙ ap (λ (m : Keyed PathClaim). unclaimed c.args.takes.now m) c.drop_all.ensures.claims
    ∙ unclaimed-both c.args.gives.now c.args.takes.now c.args.self.now.claims
