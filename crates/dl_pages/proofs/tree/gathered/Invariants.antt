use Rattle.std.proofs.Common.{◌≡◌}
use Rattle.dl_pages.specs.Listing.{flatten}
use Rattle.dl_pages.proofs.tree.gathered.Given as goal

abbrev pub invariant-loop : goal.invariant-loop
invariant-loop g l = flatten l.parts.items ≡ flatten l.fn.parts.items
