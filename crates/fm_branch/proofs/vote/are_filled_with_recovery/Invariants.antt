use Rattle.std.proofs.Common.{◌≡◌, ◌||◌, drop, not}
use Rattle.std.specs.List.{list_all}
use Rattle.fm_branch.proofs.vote.are_filled_with_recovery.Given as goal

abbrev pub invariant-loop-take : goal.invariant-loop-take
invariant-loop-take l = list_all (λ t. t.link.options.recovery || not t.fill) (drop l.take-index l.takes) ≡ list_all (λ t. t.link.options.recovery || not t.fill) l.takes
