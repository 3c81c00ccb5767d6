use Rattle.std.proofs.Common.{◌≡◌, drop}
use Rattle.meaning_merge.specs.Restoring.{in_the_way}
use Rattle.bk_losing.proofs.way.in_the_way.Given as goal

-- what is in the way of those that are left is in the way of all
abbrev pub invariant-loop-take : goal.invariant-loop-take
invariant-loop-take l = in_the_way l.files.files l.archive.copies l.gives (drop l.take-index l.takes) ≡ in_the_way l.files.files l.archive.copies l.gives l.takes
