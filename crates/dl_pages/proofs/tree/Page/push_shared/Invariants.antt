use Rattle.std.proofs.Common.{◌≡◌, ◌++◌, length}
use Rattle.dl_pages.specs.Listing.{flatten}
use Rattle.dl_pages.proofs.tree.Page.push_shared.Given as goal

abbrev pub invariant-loop-part : goal.invariant-loop-part
invariant-loop-part g l = l.self.0 ++ flatten l.rest ≡ l.fn.self.0 ++ flatten l.parts

abbrev pub decreases-loop-part : goal.decreases-loop-part
decreases-loop-part g l = length l.rest
