use Rattle.std.proofs.Common.{◌≡◌, ap, ◌∙◌}
use Rattle.std.specs.BTreeMap.{get}
use Rattle.std.specs.Cmp.Lexicographic.{slice_cmp}
use Rattle.std.specs.Ordering.{nat_cmp}
use Rattle.fm_effects.proofs.Results.{on_ok}
use Rattle.fm_effects.proofs.SiteLaws.{give-one}
use Rattle.fm_effects.specs.Sites.{site_or, with_give}
use Rattle.fm_effects.specs.declared.sites.Site.{Site}
use Rattle.fm_effects.proofs.sites.put_give.Goals as goal

pub returns : goal.returns
returns c =
    let is : c.with_give-site.result ≡ with_give c.args.row.now (site_or (get (slice_cmp nat_cmp) c.args.sites.now c.args.row.now.path)) =
    c.with_give-site.ensures ∙ ap (λ (s : Site). with_give c.args.row.now s) c.site_on.ensures in
    on_ok c.put.result c.put.ensures (λ put q. put q ∙ give-one (get (slice_cmp nat_cmp) c.args.sites.now) c.args.row.now c.with_give-site.result q is)
