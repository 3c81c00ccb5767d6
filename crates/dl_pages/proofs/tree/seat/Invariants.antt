use Rattle.std.proofs.Common.{◌≡◌, ◌+◌, length, take}
use Rattle.dl_pages.specs.Listing.{flatten}
use Rattle.dl_pages.proofs.tree.seat.Given as goal

abbrev pub invariant-loop-i : goal.invariant-loop-i
invariant-loop-i g l = length (flatten (take l.i l.parts)) + l.left ≡ l.index
