use Rattle.std.proofs.Common.{◌≡◌, ap, ◌∙◌}
use Rattle.std.specs.BTreeMap.{get}
use Rattle.std.specs.Cmp.Lexicographic.{slice_cmp}
use Rattle.std.specs.Ordering.{nat_cmp}
use Rattle.fm_effects.proofs.Results.{on_ok}
use Rattle.fm_effects.proofs.SiteLaws.{take-one}
use Rattle.fm_effects.specs.Sites.{site_or, with_take}
use Rattle.fm_effects.specs.declared.sites.Site.{Site}
use Rattle.fm_effects.proofs.sites.put_take.Goals as goal

pub returns : goal.returns
returns c =
    let is : c.with_take-site.result ≡ with_take c.args.row.now (site_or (get (slice_cmp nat_cmp) c.args.sites.now c.args.row.now.path)) =
    c.with_take-site.ensures ∙ ap (λ (s : Site). with_take c.args.row.now s) c.site_on.ensures in
    on_ok c.put.result c.put.ensures (λ put q. put q ∙ take-one (get (slice_cmp nat_cmp) c.args.sites.now) c.args.row.now c.with_take-site.result q is)
