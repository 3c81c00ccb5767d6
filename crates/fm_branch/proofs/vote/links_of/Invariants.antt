use Rattle.std.proofs.Common.{◌≡◌, ◌++◌, map}
use Rattle.std.specs.Vec.Iter.{into_iter_items}
use Rattle.fm_branch.proofs.vote.links_of.Given as goal

-- the links so far, and those of what is left
abbrev pub invariant-loop-take : goal.invariant-loop-take
invariant-loop-take l = l.links ++ map (λ t. t.link) (into_iter_items l.take-iterator) ≡ map (λ t. t.link) l.fn.takes
