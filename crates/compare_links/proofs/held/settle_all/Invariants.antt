use Rattle.std.proofs.Common.{◌≡◌, drop}
use Rattle.std.specs.Cmp.Lexicographic.{slice_cmp}
use Rattle.std.specs.FinMap as maps
use Rattle.std.specs.Ordering.{nat_cmp}
use Rattle.meaning_areas.specs.Stands.{txs_of}
use Rattle.compare_links.specs.Fitting.{held_settled}
use Rattle.compare_links.proofs.held.settle_all.Given as goal

-- the branches that are left are settled on what is held so far
abbrev pub invariant-loop-index : goal.invariant-loop-index
invariant-loop-index l =
    held_settled l.branches.links (drop l.index (txs_of l.store.rows.commits)) (maps.from_entries {R = slice_cmp nat_cmp} l.held.entries)
    ≡ held_settled l.branches.links (txs_of l.store.rows.commits) (maps.from_entries l.initial.held.entries)
