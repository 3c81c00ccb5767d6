use Rattle.std.proofs.Common.{◌≡◌, drop}
use Rattle.std.specs.FinMap as maps
use Rattle.std.specs.List.{list_all}
use Rattle.fm_branch.specs.Held.{held_in}
use Rattle.meaning_areas.specs.Branches.{holds}
use Rattle.fm_branch.proofs.vote.are_held.Given as goal

-- all of them are held if those that are left are
abbrev pub invariant-loop-link : goal.invariant-loop-link
invariant-loop-link l = list_all (λ g. holds (maps.get (held_in l.held) g.path) g) (drop l.link-index l.gives) ≡ list_all (λ g. holds (maps.get (held_in l.held) g.path) g) l.gives
