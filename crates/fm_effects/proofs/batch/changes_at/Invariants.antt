use Rattle.std.proofs.Common.{◌≡◌, ◌++◌}
use Rattle.std.specs.List.{filter_map}
use Rattle.fm_effects.specs.Changes.{change_at, filling}
use Rattle.fm_effects.proofs.batch.changes_at.Given as goal

-- the changes so far, and those at the sites that are left
abbrev pub invariant-loop-path : goal.invariant-loop-path
invariant-loop-path l =
    l.made ++ filter_map (change_at (filling l.sources) l.sources.files.now.files) l.path-iterator
    ≡ filter_map (change_at (filling l.sources) l.sources.files.now.files) l.sites.entries
