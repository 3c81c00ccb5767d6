use Rattle.std.proofs.Common.{ℕ, List, sym, ap, ◌∙◌}
use Rattle.std.specs.FinMap as maps
use Rattle.std.specs.List.{filter_map}
use Rattle.fm_effects.proofs.Results.{if_ok}
use Rattle.fm_effects.proofs.Settled.{settled-copies}
use Rattle.fm_effects.proofs.SortedSites.{entries-sites}
use Rattle.fm_effects.proofs.Taking.{batch-of}
use Rattle.fm_effects.specs.Changes.{change_at, filling}
use Rattle.fm_effects.specs.declared.sites.Site.{Site}
use Rattle.fs_files.specs.Store.{Catalog}
use Rattle.meaning_settling.specs.Settling.{Moved, by_give, numbered}
use Rattle.fm_effects.proofs.batch.changes.Goals as goal

pub returns : goal.returns
returns c =
    let m : Moved = record { gives = c.args.gives.now; takes = c.args.takes.now; fill = c.args.fill } in
    let s = c.in_ok-sources.sources in
    if_ok c.changes_at.result c.changes_at.ensures.changes (λ made is k files copies.
    is
    ∙ ap (λ (es : List (List ℕ × Site)). filter_map (change_at (filling s) s.files.now.files) es) (entries-sites m c.in_ok-sites.sites.entries c.changes_at.ensures.ordered c.in_ok-sites.ensures)
    ∙ batch-of m k s c.in_ok-sources.ensures.fill (λ fill n.
    c.in_ok-sources.ensures.copies fill n ∙ (λ i. by_give (sym files i) (numbered c.args.gives.now n) (maps.get (sym copies i) n))
    ∙ sym (settled-copies c.settling_path_by_path.ensures.copies m k n))
    (ap (λ (x : Catalog). x.files) c.in_ok-sources.ensures.files ∙ sym files))
