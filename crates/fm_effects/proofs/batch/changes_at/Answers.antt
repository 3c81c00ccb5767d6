use Rattle.std.proofs.lemmas.Map.Iter.{rest_more}
use Rattle.std.specs.List.{filter_map}
use Rattle.std.specs.Map.Iter.{deref_pair}
use Rattle.fm_effects.proofs.Listing.{listed-turn}
use Rattle.fm_effects.specs.Changes.{change_at, filling}
use Rattle.fm_effects.proofs.batch.changes_at.Goals as goal

pub loop-path-preserved : goal.loop-path-preserved
loop-path-preserved c =
    let change = change_at (filling c.args.sources.now) c.args.sources.now.files.now.files in
    listed-turn change c.loop-path.made c.put_change.new.made (filter_map change c.args.sites.now.entries) c.loop-path.path-iterator c.next.new.self (c.in-Some.path.now, c.in-Some.site.now)
    (rest_more deref_pair c.loop-path.path-iterator c.next.new.self c.next.result (c.in-Some.path, c.in-Some.site) c.in-Some.is c.next.ensures.steps)
    c.in_ok-put_change.ensures c.loop-path.invariant
