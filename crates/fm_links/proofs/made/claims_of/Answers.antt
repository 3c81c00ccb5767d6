use Rattle.std.proofs.Common.{List, ℕ, ap, ◌∙◌}
use Rattle.meaning_settling.specs.Keyed.{Keyed}
use Rattle.fm_links.specs.Claims.{PathClaim, claims_in, giving, taking}
use Rattle.fm_links.specs.declared.claims.Claim.{Claim}
use Rattle.fm_links.proofs.Moving.{claimed-both}
use Rattle.fm_links.proofs.made.claims_of.Goals as goal

pub returns : goal.returns
returns c =
    c.in_ok-give_all.ensures
    ∙ ap (λ (m : Keyed PathClaim). giving c.args.tx c.args.gives.now m)
    (c.in_ok-take_all.ensures ∙ ap (λ (es : List (List ℕ × Claim)). taking c.args.tx c.args.takes.now (claims_in es)) c.new-made.ensures.empty)
    ∙ claimed-both c.args.tx c.args.gives.now c.args.takes.now
