use Rattle.std.proofs.Common.{sym, ap, ◌∙◌, nat_eq}
use Rattle.std.specs.Cmp.Lexicographic.{pointwise}
use Rattle.std.specs.FinMap as maps
use Rattle.std.specs.Option.{option_map}
use Rattle.fm_links.specs.Claims.{ClaimTable, claim_on}
use Rattle.fm_links.proofs.Entries.{bytes-tie, found}
use Rattle.fm_links.proofs.claims.Claims.on.Goals as goal

pub returns : goal.returns
returns c =
    ap (λ o. option_map (claim_on c.args.path.now) o) (c.copied.ensures ∙ c.get.ensures.value)
    ∙ sym (found (pointwise nat_eq) bytes-tie c.self.inside.entries.entries c.args.path.now)
    ∙ ap (λ (t : ClaimTable). maps.get t.claims c.args.path.now) c.self.view_is
