use Rattle.std.proofs.Common.{◌≡◌, drop}
use Rattle.compare_files.specs.Copies.{given_stand, stands_at}
use Rattle.compare_files.proofs.archive.given_stand.Given as goal

-- all so far stand
abbrev pub invariant-loop-row : goal.invariant-loop-row
invariant-loop-row l =
    given_stand (stands_at l.sight.settled.now l.sight.files.now.files l.sight.archive.now.copies l.sight.every.now) (drop l.row-index l.gives)
    ≡ given_stand (stands_at l.sight.settled.now l.sight.files.now.files l.sight.archive.now.copies l.sight.every.now) l.gives
