use Rattle.std.proofs.Common.{ap, ◌∙◌, nat_eq}
use Rattle.std.specs.Cmp.Lexicographic.{pointwise}
use Rattle.std.specs.FinMap as maps
use Rattle.fm_links.specs.Claims.{ClaimTable}
use Rattle.fm_links.proofs.Entries.{bytes-tie, removed}
use Rattle.fm_links.proofs.claims.Claims.remove.Goals as goal

pub returns-clause-claims : goal.returns-clause-claims
returns-clause-claims c =
    removed (pointwise nat_eq) bytes-tie c.self.inside.entries.entries c.remove.new.self.entries c.args.path.now c.remove.ensures.updates.0
    ∙ ap (λ (t : ClaimTable). maps.remove t.claims c.args.path.now) c.self.view_is
