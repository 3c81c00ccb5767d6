use Rattle.std.proofs.Common.{ap, ◌∙◌, nat_eq}
use Rattle.std.specs.Cmp.Lexicographic.{pointwise}
use Rattle.fm_links.specs.Claims.{ClaimTable}
use Rattle.fm_links.proofs.Entries.{bytes-tie, reordered}
use Rattle.fm_links.proofs.claims.Claims.make_room.Goals as goal

pub returns-clause-claims : goal.returns-clause-claims
returns-clause-claims c =
    reordered (pointwise nat_eq) bytes-tie c.self.inside.entries.entries c.reserve.new.self.entries c.reserve.ensures.entries.2
    ∙ ap (λ (t : ClaimTable). t.claims) c.self.view_is
