use Rattle.std.proofs.Common.{ap, ◌∙◌, nat_eq}
use Rattle.std.specs.Cmp.Lexicographic.{pointwise}
use Rattle.std.specs.FinMap as maps
use Rattle.fm_links.specs.Claims.{ClaimTable, claim_on}
use Rattle.fm_links.proofs.Entries.{bytes-tie, put}
use Rattle.fm_links.proofs.claims.Claims.insert.Goals as goal

pub returns-clause-ok : goal.returns-clause-ok
returns-clause-ok c =
    put (pointwise nat_eq) bytes-tie c.self.inside.entries.entries c.insert.new.self.entries c.args.path c.args.claim c.in_ok-insert.ensures.updates.0
    ∙ ap (λ (t : ClaimTable). maps.insert t.claims c.args.path (claim_on c.args.path c.args.claim)) c.self.view_is
