use Rattle.std.proofs.Common.{◌≡◌, ◌++◌}
use Rattle.dl_pages.specs.Listing.{flatten}
use Rattle.dl_pages.proofs.tree.in_pages.Given as goal

abbrev pub invariant-loop-few : goal.invariant-loop-few
invariant-loop-few g l = flatten l.made.items ++ flatten l.few-iterator.rest.now ≡ flatten l.parts
