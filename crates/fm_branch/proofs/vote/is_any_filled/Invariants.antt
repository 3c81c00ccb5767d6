use Rattle.std.proofs.Common.{◌≡◌, drop}
use Rattle.std.specs.List.{list_any}
use Rattle.fm_branch.proofs.vote.is_any_filled.Given as goal

abbrev pub invariant-loop-take : goal.invariant-loop-take
invariant-loop-take l = list_any (λ t. t.fill) (drop l.take-index l.takes) ≡ list_any (λ t. t.fill) l.takes
