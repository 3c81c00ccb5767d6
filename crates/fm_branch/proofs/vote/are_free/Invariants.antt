use Rattle.std.proofs.Common.{◌≡◌, drop}
use Rattle.std.specs.FinMap as maps
use Rattle.std.specs.List.{list_all}
use Rattle.fm_branch.specs.Held.{held_in}
use Rattle.meaning_areas.specs.Branches.{given_on, is_free}
use Rattle.fm_branch.proofs.vote.are_free.Given as goal

-- all paths are free if those that are left are
abbrev pub invariant-loop-take : goal.invariant-loop-take
invariant-loop-take l =
    list_all (λ t. is_free (maps.get (held_in l.held) t.link.path) (given_on l.gives t.link.path)) (drop l.take-index l.takes)
    ≡ list_all (λ t. is_free (maps.get (held_in l.held) t.link.path) (given_on l.gives t.link.path)) l.takes
